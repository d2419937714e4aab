-- The acts that a manuscript asks for.
--   Manner          a word where it stands, under a number, or its copy in the contents that a line asks for
--   part_in         what a word is, by its mark
--   source_in       where a fault says that it comes from
--   word_act        setting a word
--   word_acts       setting words
--   entry_acts      a line of the contents: number, title, page numeral
--   contents_acts   the lines of the contents: each title with the line of its index, as far as there are both
--   text_acts       a line of text, under a number
--   title_acts      a heading's number and title, as a paragraph
--   item_acts       an item, under its number
--   told            items, for whatever is shown and whatever titles the contents have
--   script          a manuscript's items, in a style of numerals and with the record of the pass before
use Rattle.std.specs.Prelude.{◌≡◌, ℕ, List, [], ◌∷◌, ◌++◌, length, Some, None, codes, Option, refl}
use Rattle.compose.specs.Acts.{Number, Part, plain, label, page_reference, number_reference, Act, set_word, end_of_paragraph, end_of_page}
use Rattle.compose.specs.Acts as acts
use Rattle.compose.specs.declared.acts.Source.{Source}
use Rattle.marks.specs.Parts.{MarkedWord}
use Rattle.marks.specs.declared.mark.Mark.{Mark}
use Rattle.marks.specs.declared.mark.Mark.TheVariants as marks
use Rattle.numerals.specs.Heading.{number_text}
use Rattle.numerals.specs.declared.style.NumeralStyle.{NumeralStyle}
use Rattle.numerals.specs.declared.style.NumeralStyle.TheVariants.{Roman}
use Rattle.record.specs.Lists.{Lists, no_entries}
use Rattle.typeset.specs.Items.{ItemWord, at_line_lem, Item, text, heading, contents, page_break, passed_over, titles, items}
use Rattle.typeset.specs.Numbering.{before_any, number_after_lem}
use Rattle.typeset.specs.Shown.{Shown, ContentsLine, printed, shown}

pub data Manner : Type 0 where
  in_place : Number → Manner
  in_contents : ℕ → Manner

abbrev pub part_by : Number → Mark → List ℕ → ℕ → ℕ → Part
part_by k marks.Label n before after = label n k
part_by k marks.Page n before after = page_reference n before after
part_by k marks.Number n before after = number_reference n before after

abbrev pub part_in : Manner → Option MarkedWord → Part
part_in (in_place k) None = plain
part_in (in_place k) (Some m) = part_by k m.mark m.name (length m.prefix) (length m.suffix)
part_in (in_contents n) m = acts.contents

abbrev pub source_in : Manner → Source → Source
source_in (in_place k) s = s
source_in (in_contents n) s = at_line_lem n

abbrev pub word_act : Shown → Manner → ItemWord → Act
word_act sh v w = set_word (printed sh w) (part_in v w.mark) (source_in v w.source)

abbrev pub word_acts : Shown → Manner → List ItemWord → List Act
word_acts sh v [] = []
word_acts sh v (w ∷ ws) = word_act sh v w ∷ word_acts sh v ws

abbrev pub entry_acts : Shown → ℕ → List ItemWord → ContentsLine → List Act
entry_acts sh n title e =
    set_word e.number acts.contents (at_line_lem n)
    ∷ (word_acts sh (in_contents n) title ++ (set_word e.page acts.contents (at_line_lem n) ∷ end_of_paragraph ∷ []))

abbrev pub contents_acts : Shown → ℕ → List (List ItemWord) → List ContentsLine → List Act
contents_acts sh n [] es = []
contents_acts sh n (t ∷ ts) [] = []
contents_acts sh n (t ∷ ts) (e ∷ es) = entry_acts sh n t e ++ contents_acts sh n ts es

abbrev pub text_acts : Shown → Number → List ItemWord → List Act
text_acts sh k [] = end_of_paragraph ∷ []
text_acts sh k (w ∷ ws) = word_acts sh (in_place k) (w ∷ ws)

abbrev pub title_acts : Shown → Number → ℕ → List ItemWord → List Act
title_acts sh k n title =
    set_word (number_text k.level k.counters) (acts.heading k) (at_line_lem n)
    ∷ (word_acts sh (in_place k) title ++ (end_of_paragraph ∷ []))

abbrev pub item_acts : Shown → List (List ItemWord) → Number → Item → List Act
item_acts sh ts k (text ws) = text_acts sh k ws
item_acts sh ts k (heading n d ws) = end_of_paragraph ∷ title_acts sh k n ws
item_acts sh ts k (contents n) = end_of_paragraph ∷ contents_acts sh n ts sh.contents
item_acts sh ts k page_break = end_of_paragraph ∷ end_of_page ∷ []
item_acts sh ts k passed_over = []

abbrev pub told : Shown → List (List ItemWord) → Number → List Item → List Act
told sh ts k [] = []
told sh ts k (i ∷ is) = item_acts sh ts (number_after_lem k i) i ++ told sh ts (number_after_lem k i) is

abbrev pub script : NumeralStyle → Lists → List Item → List Act
script s old is = told (shown s old) (titles is) before_any is

unknown_yet : script Roman no_entries (items (codes "{p:t}.")) ≡ set_word (codes "??.") (page_reference (codes "t") 0 1) (record { line = 1; name = Some (record { offset = 3; length = 1 }) }) ∷ []
unknown_yet = refl
