-- A picture is a well-formed document.
use Rattle.svg_picture.proofs.Common.{[], ◌&&◌, ◌∷◌, ◌≡◌, ap₂, List, refl, rules, true, ℕ, Content, Element, inside}
use Rattle.svg_picture.proofs.Common.{is_plain, Nothing, page_content, page_of, plain_byte, plain_words, Svg}
use Rattle.svg_picture.proofs.Common.{svg_picture, Tag, tag_attributes, tag_name, text_of, Then, Title, Words}
use Rattle.std.proofs.lemmas.Bool.{cond_both}
use Rattle.svg_picture.specs.Laws.{are_plain, IsTag, IsMarkup, PicturesAreWellFormed, nothing, plain, closed, both}

-- ---- plain words

byte_plain : (b : ℕ) → is_plain (plain_byte b) ≡ true
byte_plain b = cond_both (is_plain b) b 63 (λ c. is_plain c ≡ true) (λ is. is) (λ is. refl)

-- words in plain bytes are plain
made_plain : (bytes : List ℕ) → are_plain (plain_words bytes) ≡ true
made_plain [] = refl
made_plain (b ∷ bytes) = ap₂ ◌&&◌ (byte_plain b) (made_plain bytes)

-- ---- tags

-- each tag is the tag of an element
tag_is : (tag : Tag) → IsTag (tag_name tag) (tag_attributes tag)
tag_is Title = record { named = refl; distinct = refl; each = search (rules, made_plain) }
tag_is tag = record { named = refl; distinct = refl; each = search (rules, made_plain) }

-- ---- documents

-- the text of a content is markup
markup : (content : Content) → IsMarkup (text_of content)
markup Nothing = nothing
markup (Words bytes) = plain (plain_words bytes) (made_plain bytes)
markup (Element tag content) = closed (tag_name tag) (tag_attributes tag) (text_of content) (tag_is tag) (markup content)
markup (Then first second) = both (text_of first) (text_of second) (markup first) (markup second)

-- a picture is a document
pub pictures_are_well_formed : PicturesAreWellFormed
unfolding svg_picture page_content
pictures_are_well_formed scene = record {
  attributes = tag_attributes (Svg _ _ _);
  inner = text_of (inside (page_of scene));
  tag = tag_is (Svg _ _ _);
  markup = markup (inside (page_of scene));
  is = refl;
}
