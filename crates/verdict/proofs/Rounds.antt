-- A run that meets one of its records again goes round for ever. Assumes nothing.
use Rattle.std.proofs.Common.{◌≡◌, ℕ, zero, suc, ◌+◌, ◌-◌, ◌<◌, ◌≤◌, Some, None, Option, sym, refl, ap, ◌∙◌, subst, ⊎_elim, add-zero, add-suc, arith}
use Rattle.std.proofs.lemmas.Bool.{cases_lt}
use Rattle.verdict.specs.Runs.{next, run, Made, Rests, Period}

module _ {X : Type 0} (f : X → Option X) (x₀ : X) where
  abbrev x : ℕ → Option X
  x = run f x₀

  -- no step before step n + 1 gives back what it began with
  abbrev pub Moving : ℕ → Type 0
  Moving n = (j : ℕ) → j < n → Rests f x₀ j → ⊥

  -- nothing after x(b), up to x(n), is x(b) again
  abbrev pub Fresh : ℕ → ℕ → Type 0
  Fresh b n = (j : ℕ) → b < j → j ≤ n → x j ≡ x b → ⊥

  -- something was reached
  abbrev There : Option X → Type 0
  There o = (y : X) × (o ≡ Some y)

  -- what is the same at two places stays the same after as many steps
  shift : (m n d : ℕ) → x m ≡ x n → x (m + d) ≡ x (n + d)
  shift m n zero e = ap x (add-zero m) ∙ e ∙ sym (ap x (add-zero n))
  shift m n (suc d) e = ap x (add-suc m d) ∙ ap (next f x₀) (shift m n d e) ∙ sym (ap x (add-suc n d))

  -- a step is made only from something
  made_from : (o : Option X) → There (next f x₀ o) → There o
  made_from None t = t
  made_from (Some y) t = (y, refl)

  -- all before something reached was reached
  reached_before : (n j : ℕ) → There (x n) → j ≤ n → There (x j)
  reached_before zero j t l = subst (λ k. There (x k)) (let e : 0 ≡ j = omega arith in e) t
  reached_before (suc n) j t l =
      ⊎_elim
      (λ early. reached_before n j (made_from (x n) t) (omega arith))
      (λ late. subst (λ k. There (x k)) (let e : suc n ≡ j = omega arith in e) t)
      (cases_lt j (suc n))

  -- x(n) is x(b), met again
  module _ (n b : ℕ) (later : b < n) (again : x n ≡ x b) where
    -- from b on the run repeats after n − b steps
    round : (i : ℕ) → b ≤ i → x (i + (n - b)) ≡ x i
    round i l =
        let there : i + (n - b) ≡ n + (i - b) = omega arith in
        let here : b + (i - b) ≡ i = omega arith in
        ap x there ∙ shift n b (i - b) again ∙ ap x here

    -- what holds of all before n holds of all, however far the run goes on
    everywhere : (P : Option X → Type 0) → ((j : ℕ) → j < n → P (x j)) → (fuel j : ℕ) → j ≤ fuel → P (x j)
    everywhere P before zero j l = before j (omega arith)
    everywhere P before (suc fuel) j l =
        ⊎_elim
        (λ early. before j early)
        (λ late.
        let k = j - (n - b) in
        let back : x j ≡ x k = ap x (let e : j ≡ k + (n - b) = omega arith in e) ∙ round k (omega arith) in
        subst P (sym back) (everywhere P before fuel k (omega arith)))
        (cases_lt j n)

    -- a step that rests would have rested before n
    pub never_rests : Moving n → (k : ℕ) → Rests f x₀ k → ⊥
    never_rests moving k r = everywhere (λ o. (y : X) × (next f x₀ o ≡ Some y) × (o ≡ Some y) → ⊥) moving k k (omega arith) r

    -- no step is ever refused
    pub never_ends : Made f x₀ n → (k : ℕ) → Made f x₀ k
    never_ends t k = everywhere There (λ j l. reached_before n j t (omega arith)) k k (omega arith)

    -- and n − b is a period
    pub repeats : Made f x₀ n → Period f x₀ b (n - b)
    repeats t = (omega arith, λ i l. let y = never_ends t i in (y.0, round i l ∙ y.1, y.1))

  -- no period is shorter than the way to the first meeting
  pub no_shorter : (m b : ℕ) → Fresh b m → (q : ℕ) → Period f x₀ b q → suc m - b ≤ q
  no_shorter m b fresh q (some, p) =
      ⊎_elim
      (λ small. let y = p b (omega arith) in absurd (fresh (b + q) (omega arith) (omega arith) (y.1 ∙ sym y.2)))
      (λ big. big)
      (cases_lt q (suc m - b))
