use Rattle.svg_picture.proofs.Common.{◌++◌, ◌≡◌, flat_map, map, take, attribute_text, named}
use Rattle.svg_picture.proofs.markup.push_attributes.Given as goal

abbrev pub invariant-loop-attribute : goal.invariant-loop-attribute
invariant-loop-attribute l = l.text.items ≡ l.fn.text.items ++ flat_map attribute_text (map named (take l.attribute-index l.attributes))
