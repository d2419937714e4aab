-- What of a list of acts makes that a record has room for it.
--   parts         what its words are, in order
--   named         the names with that of a label in front
--   names_in      the names of the labels among parts
--   titled        the numbers with that of a heading in front
--   titles_in     the numbers of the headings among parts
--   label_names   the names of the labels
--   titles        the numbers of the headings
--   labelling     how many labels there are
--   titling       how many headings
--   wording       how many words
--   Fits          at most 128 labels and 128 headings, no heading of level 0, and the number of words fits 64 bits
--   among         a name is one of some names
--   apart         no two names are the same
use Rattle.std.specs.Prelude.{◌≡◌, ℕ, ◌^◌, ◌<◌, ◌≤◌, Bool, true, false, not, ◌&&◌, ◌||◌, List, [], ◌∷◌, length, codes, refl}
use Rattle.std.proofs.Common.{arith}
use Rattle.std.specs.List.{AllByRecursion}
use Rattle.std.specs.Str.{bytes_eq}
use Rattle.compose.specs.declared.acts.Source.{Source}
use Rattle.compose.specs.Acts.{Number, Part, plain, label, heading, page_reference, number_reference, contents, Act, set_word, end_of_paragraph, end_of_page}

abbrev pub parts : List Act → List Part
parts [] = []
parts (set_word w p s ∷ acts) = p ∷ parts acts
parts (end_of_paragraph ∷ acts) = parts acts
parts (end_of_page ∷ acts) = parts acts

abbrev pub named : Part → List (List ℕ) → List (List ℕ)
named plain ns = ns
named (label n k) ns = n ∷ ns
named (heading k) ns = ns
named (page_reference n b a) ns = ns
named (number_reference n b a) ns = ns
named contents ns = ns

abbrev pub names_in : List Part → List (List ℕ)
names_in [] = []
names_in (p ∷ ps) = named p (names_in ps)

abbrev pub titled : Part → List Number → List Number
titled plain ks = ks
titled (label n k) ks = ks
titled (heading k) ks = k ∷ ks
titled (page_reference n b a) ks = ks
titled (number_reference n b a) ks = ks
titled contents ks = ks

abbrev pub titles_in : List Part → List Number
titles_in [] = []
titles_in (p ∷ ps) = titled p (titles_in ps)

abbrev pub label_names : List Act → List (List ℕ)
label_names acts = names_in (parts acts)

abbrev pub titles : List Act → List Number
titles acts = titles_in (parts acts)

abbrev pub labelling : List Act → ℕ
labelling acts = length (label_names acts)

abbrev pub titling : List Act → ℕ
titling acts = length (titles acts)

abbrev pub wording : List Act → ℕ
wording acts = length (parts acts)

pub record Fits (acts : List Act) : Type 0 where
  pub labels : labelling acts ≤ 128
  pub headings : titling acts ≤ 128
  pub levels : AllByRecursion (λ (k : Number). 1 ≤ k.level) (titles acts)
  pub words : wording acts < 2 ^ 64

abbrev pub among : List ℕ → List (List ℕ) → Bool
among n [] = false
among n (m ∷ ms) = bytes_eq m n || among n ms

abbrev pub apart : List (List ℕ) → Bool
apart [] = true
apart (n ∷ ns) = not (among n ns) && apart ns

twice : apart (codes "a" ∷ codes "b" ∷ codes "a" ∷ []) ≡ false
twice = refl

first : Number
first = record { level = 1; counters = record { first = 1; second = 0; third = 0 } }

short : Source → List Act
short s = set_word (codes "1") (heading first) s ∷ end_of_paragraph ∷ set_word (codes "here") (label (codes "a") first) s ∷ end_of_page ∷ []

one_name : (s : Source) → label_names (short s) ≡ codes "a" ∷ []
unfolding short
one_name s = refl

all_fits : (s : Source) → Fits (short s)
unfolding short first
all_fits s = record { labels = omega arith; headings = omega arith; levels = (omega arith, tt); words = omega arith }
