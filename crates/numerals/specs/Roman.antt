-- Lower-case roman numerals by the table of twelve rows: the largest row that is not above the rest is written and subtracted until nothing is left.
--   Row        a value and its one or two letters
--   rows       the twelve rows, largest first
--   letters    the letters of a row
--   chosen     the rows that are written for a number, in order: each as often as it goes into the rest
--   roman      the letters of the rows that are written
--   values     the sum of the rows' values
use Rattle.std.specs.Prelude.{◌≡◌, ℕ, ◌+◌, ◌/◌, ◌%◌, List, [], ◌∷◌, ◌++◌, replicate, Some, None, Option, codes, refl}
use Rattle.std.specs.List.{flat_map}
use Rattle.std.specs.Option.{option_to_list}

abbrev pub Row : Type 0
Row = ℕ × ℕ × Option ℕ

unfoldable pub rows : List Row
rows = (900, 99, Some 109) ∷ (500, 100, None) ∷ (400, 99, Some 100) ∷ (100, 99, None) ∷ (90, 120, Some 99) ∷ (50, 108, None) ∷ (40, 120, Some 108) ∷ (10, 120, None) ∷ (9, 105, Some 120) ∷ (5, 118, None) ∷ (4, 105, Some 118) ∷ (1, 105, None) ∷ []

abbrev pub letters : Row → List ℕ
letters r = r.1 ∷ option_to_list r.2

abbrev pub chosen : List Row → ℕ → List Row
chosen [] n = []
chosen (r ∷ rs) n = replicate (n / r.0) r ++ chosen rs (n % r.0)

abbrev pub values : List Row → ℕ
values [] = 0
values (r ∷ rs) = r.0 + values rs

abbrev pub roman : ℕ → List ℕ
roman n = flat_map letters (chosen rows n)

nine : roman 9 ≡ codes "ix"
unfolding rows
nine = refl

fours : roman 444 ≡ codes "cdxliv"
unfolding rows
fours = refl

last : roman 999 ≡ codes "cmxcix"
unfolding rows
last = refl

longest : roman 888 ≡ codes "dccclxxxviii"
unfolding rows
longest = refl
