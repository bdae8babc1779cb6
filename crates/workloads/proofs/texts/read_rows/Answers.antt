use Rattle.workloads.proofs.LinesOfTexts.{read_whole, reads_letter, reads_end, end_of_line}
use Rattle.workloads.proofs.texts.read_rows.Goals as goal
use Rattle.workloads.proofs.texts.read_rows.Goals.{in-Some+in_ok-push-in-Some, in-None+in_ok-push-in-None}

pub loop-byte-preserved : goal.loop-byte-preserved
loop-byte-preserved c =
    let text = c.args.text.now in
    let i = c.loop-byte.byte-index in
    let rows = c.loop-byte.rows.items in
    let kinds = c.loop-byte.kinds.items in
    let read = c.loop-byte.invariant in
    elim c.match-kind_of_letter.branch [
      | in-Some+in_ok-push-in-Some w ↦
          let letters = reads_letter text i rows kinds w.in-Some.kind c.loop-byte-test.true w.in-Some.ensures read in
          rw (w.rows-is, w.kinds-is, w.in_ok-push-in-Some.ensures.items) letters
      | in-None+in_ok-push-in-None w ↦
          let end = end_of_line text _ i c.requires.1 c.loop-byte-test.true w.in-None.ensures in
          let line = reads_end text i rows kinds c.loop-byte-test.true end read in
          rw (
            w.rows-is,
            w.kinds-is,
            w.in_ok-push-in-None.ensures.items,
            w.from_vec.ensures,
            w.replace.ensures.value,
            w.replace.ensures.after,
            w.new.ensures.items,
          ) line
    ]

pub returns : goal.returns
returns c = read_whole _ c.requires.0 _ _ _ c.requires.1 c.loop-byte-test.false c.loop-byte.invariant
