-- How long the texts are, and how a number's text is put together.
use Rattle.std.proofs.Common.{◌≡◌, ℕ, zero, suc, ◌<◌, ◌≤◌, Bool, true, ◌&&◌, T, ltb, leb, List, ◌∷◌, ◌++◌, length, sym, refl, ap, ◌∙◌, append-nil, arith}
use Rattle.std.proofs.lemmas.Bool.{cond_both, leb-true, le-leb, and_parts}
use Rattle.std.proofs.lemmas.Bool.Decides.{nat_tests, Decides-below_and}
use Rattle.numerals.specs.Roman.{rows, roman}
use Rattle.numerals.specs.declared.style.NumeralStyle.TheVariants.{Decimal, Roman}
use Rattle.numerals.specs.Numeral.{decimal, is_page, numeral, NumeralLaws}
use Rattle.numerals.proofs.Greedy.{values_all}
use Rattle.numerals.specs.Sound.{number_ok}
use Rattle.numerals.specs.Heading.{number_text}
use Rattle.numerals.specs.declared.counters.Counters.{Counters}

pub decimal_short : (n : ℕ) → length (decimal n) ≤ 3
decimal_short n =
    let P : List ℕ → Type 0 = λ l. length l ≤ 3 in
    cond_both (ltb n 10) _ _ P (λ _. omega arith) (λ _. cond_both (ltb n 100) _ _ P (λ _. omega arith) (λ _. omega arith))

pub level_bound : (level : ℕ) (cs : Counters) → number_ok level cs ≡ true → level ≤ 3
unfolding number_ok
level_bound level cs h = grind (arith, nat_tests)

pub counters_bound : (level : ℕ) (cs : Counters) → number_ok level cs ≡ true → (cs.first ≤ 128) × (cs.second ≤ 128) × (cs.third ≤ 128)
unfolding number_ok
counters_bound level cs h =
    let p = and_parts (leb cs.first 128 && (leb cs.second 128 && leb cs.third 128)) _ h in
    let q = and_parts (leb cs.first 128) _ p.0 in
    let r = and_parts (leb cs.second 128) _ q.1 in
    (leb-true _ 128 q.0, leb-true _ 128 r.0, leb-true _ 128 r.1)

short : ℕ → Bool
short zero = true
short (suc n) = leb (length (roman n)) 12 && short n

-- one computed test over every page
pub roman_short : (n : ℕ) → n < 1000 → length (roman n) ≤ 12
unfolding rows short
roman_short = (Decides-below_and (λ n. leb (length (roman n)) 12) (λ n. length (roman n) ≤ 12) short (λ n. (leb-true _ 12, le-leb _ 12)) refl (λ _. refl) 1000).0 refl

pub page_bounds : (n : ℕ) → T (is_page n) → (1 ≤ n) × (n < 1000)
page_bounds n p = (grind (arith, nat_tests), grind (arith, nat_tests))

-- the number of no heading is 0, and that of a heading of level 1 is its counter
first_text : (level : ℕ) (cs : Counters) → (level ≡ 0 → cs.first ≡ 0) → level < 2 → decimal cs.first ≡ number_text level cs
first_text zero cs z h = ap decimal (z refl)
first_text (suc zero) cs z h = sym (append-nil _)
first_text (suc (suc n)) cs z h = absurd (omega arith)

pub laws : NumeralLaws
laws = (values_all, λ s n p. elim s as (λ t. length (numeral t n) ≤ 12) [ Decimal ↦ omega (arith, decimal_short n) | Roman ↦ roman_short n (page_bounds n p).1 ])

module _ (level : ℕ) (cs : Counters) (ok : number_ok level cs ≡ true) where
  pub text_one : level < 2 → decimal cs.first ≡ number_text level cs
  unfolding number_ok
  text_one h = first_text level cs (grind (arith, nat_tests)) h

  pub text_two : 2 ≤ level → (level ≡ 3 → ⊥) → decimal cs.first ++ (46 ∷ decimal cs.second) ≡ number_text level cs
  text_two h ne =
      let e : level ≡ 2 = omega (arith, level_bound level cs ok) in
      ap (λ l. decimal cs.first ++ l) (sym (append-nil _)) ∙ ap (λ n. number_text n cs) (sym e)
