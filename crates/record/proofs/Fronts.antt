-- The fronts of two lists that are compared from the start.
use Rattle.std.proofs.Common.{◌≡◌, ℕ, suc, ◌+◌, ◌<◌, ◌≤◌, ⊎_elim, Bool, true, false, List, [], ◌∷◌, length, take, drop, sym, refl, ap, ◌∙◌, subst, arith, take_all, one-add}
use mathlib.Core.Logic.{◌⊎◌}
use Rattle.std.proofs.lemmas.Bool.{cond_both, false≢true}
use Rattle.record.specs.Differ.{agreed}

-- a test that holds of just equal elements
module _ {X : Type 0} (eq : X → X → Bool) (exact : (x y : X) → eq x y ≡ true → x ≡ y) (whole : (x : X) → eq x x ≡ true) where
  front : (a b : List X) → take (agreed eq a b) a ≡ take (agreed eq a b) b
  front [] b = refl
  front (x ∷ a) [] = refl
  front (x ∷ a) (y ∷ b) =
      cond_both (eq x y) (1 + agreed eq a b) 0 (λ n. take n (x ∷ a) ≡ take n (y ∷ b))
      (λ t. ap (λ n. take n (x ∷ a)) (one-add _) ∙ (λ i. exact x y t i ∷ front a b i) ∙ ap (λ n. take n (y ∷ b)) (sym (one-add _)))
      (λ _. refl)

  Ended : List X → List X → ℕ → Type 0
  Ended a b n = take (n + 1) a ≡ take (n + 1) b → (length a ≤ n) × (length b ≤ n)

  ended_later : (x y : X) (a b : List X) (n : ℕ) → Ended a b n → Ended (x ∷ a) (y ∷ b) (1 + n)
  unfolding Ended
  ended_later x y a b n h e =
      let k : suc (n + 1) ≡ (1 + n) + 1 = omega arith in
      let s : take (n + 1) a ≡ take (n + 1) b = ap (drop 1) (ap (λ k. take k (x ∷ a)) k ∙ e ∙ ap (λ k. take k (y ∷ b)) (sym k)) in
      (omega (arith, (h s).0), omega (arith, (h s).1))

  ended_here : (x y : X) (a b : List X) → eq x y ≡ false → Ended (x ∷ a) (y ∷ b) 0
  unfolding Ended
  ended_here x y a b f e = let s : x ≡ y = cc in absurd (false≢true (sym f ∙ ap (eq x) (sym s) ∙ whole x))

  ended : (a b : List X) → Ended a b (agreed eq a b)
  unfolding Ended
  ended [] [] = λ e. (omega arith, omega arith)
  ended [] (y ∷ b) = λ e. absurd (let z : ◌≡◌ {A = ℕ} 0 1 = ap length e in omega arith)
  ended (x ∷ a) [] = λ e. absurd (let z : ◌≡◌ {A = ℕ} 1 0 = ap length e in omega arith)
  ended (x ∷ a) (y ∷ b) = cond_both (eq x y) (1 + agreed eq a b) 0 (Ended (x ∷ a) (y ∷ b)) (λ _. ended_later x y a b _ (ended a b)) (ended_here x y a b)

  pub apart : (a b : List X) (n : ℕ) → n ≡ agreed eq a b → (n < length a) ⊎ (n < length b) → take (n + 1) a ≡ take (n + 1) b → ⊥
  unfolding Ended
  apart a b n e h s =
      let ends = ended a b (subst (λ k. take (k + 1) a ≡ take (k + 1) b) e s) in
      ⊎_elim (λ l. omega (arith, ends.0)) (λ l. omega (arith, ends.1)) h

  pub same_front : (a b : List X) (n : ℕ) → n ≡ agreed eq a b → take n a ≡ take n b
  same_front a b n e = subst (λ k. take k a ≡ take k b) (sym e) (front a b)

  pub all_of_both : (a b : List X) (n : ℕ) → n ≡ agreed eq a b → length a ≤ n → length b ≤ n → a ≡ b
  all_of_both a b n e la lb = sym (take_all n a la) ∙ same_front a b n e ∙ take_all n b lb
