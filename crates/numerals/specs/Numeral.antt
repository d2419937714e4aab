-- How the number of a page is printed.
--   is_page        a page is 1 to 999
--   decimal        a number below 1000 in decimal digits
--   numeral        a page in the chosen style
--   style_letter   the letter that stands for a style
--   OfLetter       what reading a letter answers: the style that it stands for, or that it stands for none
--   PagePuts       what writing a page's numeral at a place answers and leaves: nothing where the number is no page
--   NumeralLaws    the rows that are written for a number add up to it, and no page has more than 12 letters
use Rattle.std.specs.Prelude.{◌≡◌, ℕ, ◌+◌, ◌/◌, ◌%◌, ◌≤◌, Bool, cond, ◌&&◌, T, List, [], ◌∷◌, length, None, codes, MatchBool, Option, Result, MatchResult, ◌≢◌, nat_le, nat_lt, refl}
use Rattle.buffers.specs.Written.{Puts}
use Rattle.numerals.specs.Roman.{rows, chosen, values, roman}
use Rattle.numerals.specs.declared.style.NumeralStyle.{NumeralStyle}
use Rattle.numerals.specs.declared.style.NumeralStyle.TheVariants.{Decimal, Roman}
use Rattle.numerals.specs.declared.style.UnknownStyle.{UnknownStyle}

abbrev pub is_page : ℕ → Bool
is_page n = nat_le 1 n && nat_le n 999

abbrev digit : ℕ → ℕ
digit d = 48 + d

abbrev pub decimal : ℕ → List ℕ
decimal n =
    cond (nat_lt n 10) (digit n ∷ [])
    (cond (nat_lt n 100) (digit (n / 10) ∷ digit (n % 10) ∷ [])
    (digit (n / 100) ∷ digit (n / 10 % 10) ∷ digit (n % 10) ∷ []))

abbrev pub numeral : NumeralStyle → ℕ → List ℕ
numeral Decimal n = decimal n
numeral Roman n = roman n

abbrev pub style_letter : NumeralStyle → ℕ
style_letter Decimal = 100
style_letter Roman = 114

abbrev pub OfLetter : ℕ → Result NumeralStyle UnknownStyle → Type 0
OfLetter letter r = MatchResult r (λ s. style_letter s ≡ letter) (λ e. (e.0 ≡ letter) × ((s : NumeralStyle) → style_letter s ≢ letter))

abbrev pub PagePuts : NumeralStyle → ℕ → List ℕ → ℕ → Option ℕ → List ℕ → Type 0
PagePuts s n out at r after = MatchBool (is_page n) (Puts (numeral s n) out at r after) ((r ≡ None) × (after ≡ out))

abbrev pub NumeralLaws : Type 0
NumeralLaws = ((n : ℕ) → values (chosen rows n) ≡ n) × ((s : NumeralStyle) (n : ℕ) → T (is_page n) → length (numeral s n) ≤ 12)

forty : decimal 40 ≡ codes "40"
forty = refl

last : decimal 999 ≡ codes "999"
last = refl
