-- The names that most proofs of this crate cite, passed on from one place. Declares nothing.
pub use Rattle.std.proofs.Common.{[], ◌&&◌, ◌*◌, ◌++◌, ◌+◌, ◌<◌, ◌↔◌, ◌∙◌, ◌∷◌, ◌≡◌, ap, append-nil, append_assoc, ap₂}
pub use Rattle.std.proofs.Common.{arith, Err, flat_map, get_or, inl, inr, length, List, map, mul-le-mul_left, Ok}
pub use Rattle.std.proofs.Common.{OnOk, refl, rules, sym, take, true, ℕ}
pub use Rattle.std.proofs.lemmas.List.{take_more}
pub use Rattle.std.specs.List.{concat, enumerate_from}
pub use Rattle.drawing.proofs.Loops.{enumerated_more}
pub use Rattle.svg_picture.specs.Layout.{page_on}
unfoldable pub use Rattle.svg_picture.specs.Layout.{thread_x}
pub use Rattle.svg_picture.specs.Markup.{attribute_text, Content, each, Element, group, is_plain, named, Nothing}
pub use Rattle.svg_picture.specs.Markup.{plain_byte, plain_words, Svg, Tag, tag_attributes, tag_name, text_of, Then}
pub use Rattle.svg_picture.specs.Markup.{Title, Words}
pub use Rattle.svg_picture.specs.Picture.{band_at, bar, inside, lane_names, page_of, row_parts, sign_at}
unfoldable pub use Rattle.svg_picture.specs.Picture.{initial_words, page_content, row_pattern, svg_picture}
