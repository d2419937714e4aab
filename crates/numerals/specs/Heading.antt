-- The number of a heading, and how it is printed.
--   pointed        numbers in decimal, joined by points; 0 for none
--   number_text    the counters up to the level, joined by points; 0 at level 0
--   Numbers        what making a number of a level and counters answers
use Rattle.std.specs.Prelude.{◌≡◌, ℕ, true, false, List, [], ◌∷◌, ◌++◌, take, Some, None, codes, Option, refl}
use Rattle.std.specs.List.{flat_map}
use Rattle.numerals.specs.Numeral.{decimal}
use Rattle.numerals.specs.Sound.{number_ok}
use Rattle.numerals.specs.declared.counters.Counters.{Counters}
use Rattle.numerals.specs.declared.heading.HeadingNumber.{HeadingNumber}

abbrev pub pointed : List ℕ → List ℕ
pointed [] = decimal 0
pointed (n ∷ ns) = decimal n ++ flat_map (λ m. 46 ∷ decimal m) ns

abbrev pub number_text : ℕ → Counters → List ℕ
number_text level cs = pointed (take level (cs.first ∷ cs.second ∷ cs.third ∷ []))

abbrev pub Numbers : ℕ → Counters → Option HeadingNumber → Type 0
Numbers level cs None = number_ok level cs ≡ false
Numbers level cs (Some n) = (number_ok level cs ≡ true) × (n.level ≡ level) × (n.counters ≡ cs)

before : number_text 0 (record { first = 0; second = 0; third = 0 }) ≡ codes "0"
before = refl

deep : number_text 3 (record { first = 12; second = 0; third = 128 }) ≡ codes "12.0.128"
deep = refl

unsound : number_ok 2 (record { first = 1; second = 0; third = 0 }) ≡ false
unfolding number_ok
unsound = refl
