use Rattle.text_lines.proofs.Scanning.{same_eight}
use Rattle.text_lines.proofs.scan.is_same_eight.Goals as goal

pub returns : goal.returns
returns c =
    same_eight c.args.bytes.now c.args.word.now c.from_le_bytes.result c.from_le_bytes-2.result c.told-bytes c.told-word c.fits-bytes c.fits-word
    c.from_le_bytes.ensures c.from_le_bytes-2.ensures
