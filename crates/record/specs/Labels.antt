-- Labels in a list, as plain values.
--   later            a place, so much later
--   place_of         the place of the first label that has a name
--   distinct         no two labels have one name
--   with_position    the labels with the i-th at another position; all else stays
use Rattle.std.specs.Prelude.{◌≡◌, ℕ, zero, suc, ◌+◌, Bool, true, false, cond, not, ◌&&◌, List, [], ◌∷◌, is_some, Some, None, codes, Option, refl}
use Rattle.std.specs.Str.{bytes_eq}
use Rattle.record.specs.Positions.{Position, Label}

abbrev pub later : ℕ → Option ℕ → Option ℕ
later n None = None
later n (Some i) = Some (n + i)

abbrev pub place_of : List ℕ → List Label → Option ℕ
place_of n [] = None
place_of n (l ∷ ls) = cond (bytes_eq l.name n) (Some 0) (later 1 (place_of n ls))

abbrev pub distinct : List Label → Bool
distinct [] = true
distinct (l ∷ ls) = not (is_some (place_of l.name ls)) && distinct ls

abbrev pub with_position : List Label → ℕ → Position → List Label
with_position [] i p = []
with_position (l ∷ ls) zero p = record { name = l.name; position = p } ∷ ls
with_position (l ∷ ls) (suc i) p = l ∷ with_position ls i p

start : Position
start = record { level = 0; counters = record { first = 0; second = 0; third = 0 }; page = 1 }

label : List ℕ → Label
label n = record { name = n; position = start }

second : place_of (codes "b") (label (codes "a") ∷ label (codes "b") ∷ []) ≡ Some 1
unfolding label start
second = refl

repeated : distinct (label (codes "a") ∷ label (codes "b") ∷ label (codes "a") ∷ []) ≡ false
unfolding label start
repeated = refl
