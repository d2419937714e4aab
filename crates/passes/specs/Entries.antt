-- The entries of a manuscript: what of a record does not come from the pass.
--   number_at      the number of a position, without its page
--   label_key      a label without its page: its name and its number
--   label_by       the label that a mark with a name is, under a number
--   mark_labels    the label that the mark of a word is, if it has one
--   word_labels    the labels among words
--   item_labels    the labels of an item, in text or in a title
--   labels_told    the labels of items, each under the number that it stands under
--   item_numbers   the number of an item that is a heading
--   numbers_told   the numbers of the headings among items
--   Entries        the labels and the contents of a record are those of a text, in its order
--   EntriesMade    the entries of a record that was made are those of its manuscript
use Rattle.std.specs.Prelude.{◌≡◌, ℕ, List, [], ◌∷◌, ◌++◌, map, Some, None, Ok, Err, codes, Option, Result, refl}
use Rattle.compose.specs.Acts.{Number}
use Rattle.faults.specs.declared.fault.Fault.{Fault}
use Rattle.marks.specs.Parts.{MarkedWord}
use Rattle.marks.specs.declared.mark.Mark.{Mark}
use Rattle.marks.specs.declared.mark.Mark.TheVariants as marks
use Rattle.record.specs.Lists.{Lists}
use Rattle.record.specs.Positions.{Position, Label}
use Rattle.typeset.specs.Items.{ItemWord, Item, text, heading, contents, page_break, passed_over, items}
use Rattle.typeset.specs.Numbering.{before_any, number_after_lem}

abbrev pub number_at : Position → Number
number_at p = record { level = p.level; counters = p.counters }

abbrev pub label_key : Label → List ℕ × Number
label_key l = (l.name, number_at l.position)

abbrev pub label_by : Number → Mark → List ℕ → List (List ℕ × Number)
label_by k marks.Label n = (n, k) ∷ []
label_by k marks.Page n = []
label_by k marks.Number n = []

abbrev pub mark_labels : Number → Option MarkedWord → List (List ℕ × Number)
mark_labels k None = []
mark_labels k (Some m) = label_by k m.mark m.name

abbrev pub word_labels : Number → List ItemWord → List (List ℕ × Number)
word_labels k [] = []
word_labels k (w ∷ ws) = mark_labels k w.mark ++ word_labels k ws

abbrev pub item_labels : Number → Item → List (List ℕ × Number)
item_labels k (text ws) = word_labels k ws
item_labels k (heading n d ws) = word_labels k ws
item_labels k (contents n) = []
item_labels k page_break = []
item_labels k passed_over = []

abbrev pub labels_told : Number → List Item → List (List ℕ × Number)
labels_told k [] = []
labels_told k (i ∷ is) = item_labels (number_after_lem k i) i ++ labels_told (number_after_lem k i) is

abbrev pub item_numbers : Number → Item → List Number
item_numbers k (text ws) = []
item_numbers k (heading n d ws) = k ∷ []
item_numbers k (contents n) = []
item_numbers k page_break = []
item_numbers k passed_over = []

abbrev pub numbers_told : Number → List Item → List Number
numbers_told k [] = []
numbers_told k (i ∷ is) = item_numbers (number_after_lem k i) i ++ numbers_told (number_after_lem k i) is

pub record Entries (t : List ℕ) (ls : Lists) : Type 0 where
  pub labels : map label_key ls.labels ≡ labels_told before_any (items t)
  pub contents : map number_at ls.contents ≡ numbers_told before_any (items t)

abbrev pub EntriesMade : {X : Type 0} → List ℕ → Result X Fault → Lists → Type 0
EntriesMade t (Ok n) ls = Entries t ls
EntriesMade t (Err f) ls = Unit {0}

first : Number
first = record { level = 1; counters = record { first = 1; second = 0; third = 0 } }

one_label : labels_told before_any (items (codes "# Pump\nOpen{l:v} it")) ≡ (codes "v", first) ∷ []
unfolding first
one_label = refl

one_number : numbers_told before_any (items (codes "# Pump\nOpen{l:v} it")) ≡ first ∷ []
unfolding first
one_number = refl
