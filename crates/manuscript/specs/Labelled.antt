-- The law of labels.
--   is_label       whether a mark is a label
--   defines        whether a mark defines a name
--   definitions    how often marks define a name
--   named          the name of the k-th mark
--   Labelled       the name of every mark that stands in a text is defined exactly once: each label is defined once, and
--                  each reference has its label
use Rattle.std.specs.Prelude.{◌≡◌, ℕ, zero, suc, ◌+◌, ◌<◌, Bool, true, false, cond, ◌&&◌, List, [], ◌∷◌, length, codes, refl}
use Rattle.std.specs.Str.{bytes_eq}
use Rattle.marks.specs.declared.mark.Mark.{Mark}
use Rattle.marks.specs.declared.mark.Mark.TheVariants.{Label, Page, Number}
use Rattle.manuscript.specs.Standing.{Marking, marks}

abbrev pub is_label : Mark → Bool
is_label Label = true
is_label Page = false
is_label Number = false

abbrev pub defines : List ℕ → Marking → Bool
defines n m = is_label m.mark && bytes_eq m.name n

abbrev pub definitions : List ℕ → List Marking → ℕ
definitions n [] = 0
definitions n (m ∷ ms) = cond (defines n m) 1 0 + definitions n ms

abbrev pub named : ℕ → List Marking → List ℕ
named k [] = []
named zero (m ∷ ms) = m.name
named (suc k) (m ∷ ms) = named k ms

abbrev pub Labelled : List ℕ → Type 0
Labelled t = (k : ℕ) → k < length (marks t) → definitions (named k (marks t)) (marks t) ≡ 1

book : definitions (codes "v") (marks (codes "# Pump{l:v}\nsee {p:v}.")) ≡ 1
book = refl
