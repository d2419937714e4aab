-- Computed examples: records that are one page number, from page 0.
--   read         what is said of pages taken in one after the other
--   verdict_on   the same from the start
--   still        a step that stays at 3
--   swing        a step that swings between 3 and 4
use Rattle.std.specs.Prelude.{◌≡◌, ℕ, true, false, cond, List, [], ◌∷◌, Some, Decides, Option, ◌==◌, nat_eq, refl}
use Rattle.std.proofs.Common.{ap}
use Rattle.std.proofs.lemmas.Bool.{false≢true}
use Rattle.verdict.specs.Brent.{numbers, start, advanced, at_anchor_lem, verdict_of}
use Rattle.verdict.specs.Said.{Said, says, said}
use Rattle.verdict.specs.Runs.{Reached, begun, passed}
use Rattle.verdict.specs.declared.outcome.Outcome.TheVariants.{Open, Settled, Oscillates}
use Rattle.verdict.specs.declared.progress.Progress.{Progress}

abbrev read : Progress → ℕ → ℕ → List ℕ → Said
read p c a [] = said (verdict_of p)
read p c a (n ∷ ns) = read (advanced (n == c) (n == a) p) n (cond (at_anchor_lem (advanced (n == c) (n == a) p)) n a) ns

abbrev verdict_on : List ℕ → Said
verdict_on = read start 0 0

settles : verdict_on (3 ∷ 3 ∷ []) ≡ says Settled 2 1 1
settles = refl

swings : verdict_on (3 ∷ 4 ∷ 3 ∷ []) ≡ says Oscillates 3 2 1
swings = refl

not_yet : verdict_on (3 ∷ 4 ∷ []) ≡ says Open 2 0 0
not_yet = refl

-- a period of three is met at the anchor of pass 3
three : verdict_on (5 ∷ 6 ∷ 7 ∷ 5 ∷ 6 ∷ 7 ∷ []) ≡ says Oscillates 6 3 3
three = refl

abbrev still : ℕ → Option ℕ
still n = Some 3

abbrev swing : ℕ → Option ℕ
swing n = cond (n == 3) (Some 4) (Some 3)

unlike : {P : Type 0} → (P → false ≡ true) → Decides false P
unlike h = (λ e. absurd (false≢true e), h)

alike : {P : Type 0} → P → Decides true P
alike h = (λ e. h, λ e. refl)

-- both steps begin alike: 3 after 0, and the anchor moves to it
one_pass : (f : ℕ → Option ℕ) → f 0 ≡ Some 3 → Reached f 0 (numbers 1 1 2 Open) 3 3
one_pass f makes = passed start 0 0 3 false false begun refl makes (unlike (λ e. ap (nat_eq 0) e)) (unlike (λ e. ap (nat_eq 0) e))

-- the run 0, 3, 3
rested : Reached still 0 (numbers 2 1 2 Settled) 3 3
rested = passed (numbers 1 1 2 Open) 3 3 3 true true (one_pass still refl) refl refl (alike refl) (alike refl)

-- the run 0, 3, 4, 3
swung : Reached swing 0 (numbers 3 1 2 Oscillates) 3 3
swung =
    let two : Reached swing 0 (numbers 2 1 2 Open) 4 3 = passed (numbers 1 1 2 Open) 3 3 4 false false (one_pass swing refl) refl refl (unlike (λ e. ap (nat_eq 3) e)) (unlike (λ e. ap (nat_eq 3) e)) in
    passed (numbers 2 1 2 Open) 4 3 3 false true two refl refl (unlike (λ e. ap (nat_eq 4) e)) (alike refl)
