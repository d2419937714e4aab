-- The longest front of a list that passes a test: every element of it passes, and the one after it does not.
use Rattle.std.proofs.Common.{◌≡◌, ℕ, suc, ◌+◌, ◌-◌, ◌<◌, ◌≤◌, Bool, true, false, ◌&&◌, eqb, List, [], ◌∷◌, length, get_or, take, drop, sym, refl, ap, ◌∙◌, ⊎_elim, one-add, arith, length-drop, length-take-le}
use Rattle.std.specs.List.{prefix_len, list_all}
use Rattle.std.proofs.Math.Dec.{eqb-suc-suc, eqb-zero-suc}
use Rattle.std.proofs.lemmas.List.{get_or-drop}
use Rattle.std.proofs.lemmas.List.Sums.{prefix_len-le-length, prefix_len_passes, prefix_len_stops}
use Rattle.std.proofs.lemmas.Bool.{cond-true, cond-false, cases_Bool, eq-eqb}
use Rattle.runs.specs.Run.{all}

module _ (p : ℕ → Bool) where
  leading_yes : (b : ℕ) (bs : List ℕ) → p b ≡ true → prefix_len p (b ∷ bs) ≡ suc (prefix_len p bs)
  leading_yes b bs e = cond-true (p b) (1 + prefix_len p bs) 0 e ∙ one-add (prefix_len p bs)

  leading_no : (b : ℕ) (bs : List ℕ) → p b ≡ false → prefix_len p (b ∷ bs) ≡ 0
  leading_no b bs e = cond-false (p b) (1 + prefix_len p bs) 0 e

  -- the element after the front fails
  pub stops_at : (x : List ℕ) (i m : ℕ) → m ≡ prefix_len p (drop i x) → i + m < length x → p (get_or x (i + m) 0) ≡ false
  stops_at x i m e h =
      let inside : prefix_len p (drop i x) < length (drop i x) = omega (arith, length-drop i x) in
      ap p (sym (get_or-drop i x m 0)) ∙ ap (λ k. p (get_or (drop i x) k 0)) e ∙ prefix_len_stops p (drop i x) 0 inside

  -- every element of the front passes
  pub passes_at : (x : List ℕ) (i m j : ℕ) → m ≡ prefix_len p (drop i x) → i ≤ j → j < i + m → p (get_or x j 0) ≡ true
  passes_at x i m j e l h =
      let k : i + (j - i) ≡ j = omega arith in
      ap (λ a. p (get_or x a 0)) (sym k) ∙ ap p (sym (get_or-drop i x (j - i) 0)) ∙ prefix_len_passes p (drop i x) (j - i) 0 (omega arith)

  -- the front is a front of its own
  front : (x : List ℕ) → prefix_len p (take (prefix_len p x) x) ≡ prefix_len p x
  front [] = refl
  front (b ∷ bs) =
      ⊎_elim
      (λ e. ap (λ k. prefix_len p (take k (b ∷ bs))) (leading_yes b bs e) ∙ leading_yes b (take (prefix_len p bs) bs) e ∙ ap suc (front bs) ∙ sym (leading_yes b bs e))
      (λ e. ap (λ k. prefix_len p (take k (b ∷ bs))) (leading_no b bs e) ∙ sym (leading_no b bs e))
      (cases_Bool (p b))

  pub all_front : (x : List ℕ) (m : ℕ) → m ≡ prefix_len p x → all p (take m x) ≡ true
  all_front x m e =
      let fits : m ≤ length x = omega (arith, prefix_len-le-length p x) in
      eq-eqb _ _ (ap (λ k. prefix_len p (take k x)) e ∙ front x ∙ sym e ∙ sym (length-take-le m x fits))

  -- each element passes where the front is the whole list
  pub list_all_front : (x : List ℕ) → list_all p x ≡ all p x
  list_all_front [] = refl
  list_all_front (b ∷ bs) =
      ⊎_elim
      (λ e. ap (λ c. c && list_all p bs) e ∙ list_all_front bs ∙ sym (eqb-suc-suc (prefix_len p bs) (length bs)) ∙ ap (λ k. eqb k (suc (length bs))) (sym (leading_yes b bs e)))
      (λ e. ap (λ c. c && list_all p bs) e ∙ sym (eqb-zero-suc (length bs)) ∙ ap (λ k. eqb k (suc (length bs))) (sym (leading_no b bs e)))
      (cases_Bool (p b))
