-- Taking a word apart loses nothing of it.
use Rattle.std.proofs.Common.{◌≡◌, ℕ, ◌+◌, Bool, true, ◌&&◌, eqb, ltb, List, [], ◌∷◌, ◌++◌, length, take, drop, is_ok, Some, None, Ok, Err, Option, Result, sym, refl, ap, ◌∙◌, subst, append_assoc, take-append-drop}
use Rattle.std.specs.List.{prefix_len}
use Rattle.std.proofs.lemmas.List.{append-nil}
use Rattle.std.proofs.lemmas.Bool.{cond_both, eqb-true, and_parts}
use Rattle.names.specs.Name.{naming}
use Rattle.names.specs.declared.NameError.{NameError}
use Rattle.runs.specs.Run.{all}
use Rattle.runs.proofs.Fronts.{all_front}
use Rattle.marks.specs.declared.mark.Mark.{Mark}
use Rattle.marks.specs.declared.mark.Mark.TheVariants.{Label, Page, Number}
use Rattle.marks.specs.Parts.{plain, mark_of, standing, shut, closed, marked, opened, parts}
use Rattle.marks.specs.Whole.{letter, mark_bytes, Whole}

right_is : (n : Result (Unit {0}) NameError) → is_ok n ≡ true → n ≡ Ok tt
right_is (Ok tt) h = refl
right_is (Err e) h = cc

letter_is : (k : ℕ) (m : Mark) → mark_of k ≡ Some m → k ≡ letter m
letter_is k m =
    cond_both (eqb k 108) (Some Label) _ (λ o. o ≡ Some m → k ≡ letter m)
    (λ e h. let same : Label ≡ m = cc in eqb-true k 108 e ∙ ap letter same)
    (λ _. cond_both (eqb k 112) (Some Page) _ (λ o. o ≡ Some m → k ≡ letter m)
    (λ e h. let same : Page ≡ m = cc in eqb-true k 112 e ∙ ap letter same)
    (λ _. cond_both (eqb k 110) (Some Number) None (λ o. o ≡ Some m → k ≡ letter m)
    (λ e h. let same : Number ≡ m = cc in eqb-true k 110 e ∙ ap letter same)
    (λ _ h. cc)))

module _ (title : Bool) (pre : List ℕ) (clean : all plain pre ≡ true) where
  shut_whole : (m : Mark) (name suf : List ℕ) → Whole (pre ++ (mark_bytes m name ++ suf)) (shut title m pre name suf)
  shut_whole m name suf =
      let w = pre ++ (mark_bytes m name ++ suf) in
      cond_both (is_ok (naming name) && (all plain suf && standing title m (length pre + length suf))) _ _ (Whole w)
      (λ e.
      let named = and_parts (is_ok (naming name)) _ e in
      let around = and_parts (all plain suf) _ named.1 in
      cond_both (ltb 60 (length pre + length suf)) _ _ (Whole w) (λ _. tt)
      (λ _. record { whole = refl; before = clean; named = right_is (naming name) named.0; behind = around.0 }))
      (λ _. tt)

  closed_whole : (m : Mark) (name rest : List ℕ) → Whole (pre ++ (123 ∷ letter m ∷ 58 ∷ (name ++ rest))) (closed title m pre name rest)
  closed_whole m name [] = tt
  closed_whole m name (b ∷ suf) =
      cond_both (eqb b 125) _ _ (Whole (pre ++ (123 ∷ letter m ∷ 58 ∷ (name ++ (b ∷ suf)))))
      (λ e.
      let same : (name ++ 125 ∷ []) ++ suf ≡ name ++ (b ∷ suf) = append_assoc name (125 ∷ []) suf ∙ ap (λ x. name ++ (x ∷ suf)) (sym (eqb-true b 125 e)) in
      subst (λ x. Whole (pre ++ (123 ∷ letter m ∷ 58 ∷ x)) (shut title m pre name suf)) same (shut_whole m name suf))
      (λ _. tt)

  marked_whole : (k : ℕ) (o : Option Mark) (more : List ℕ) → mark_of k ≡ o → Whole (pre ++ (123 ∷ k ∷ 58 ∷ more)) (marked title o pre more)
  marked_whole k None more e = tt
  marked_whole k (Some m) more e =
      let n = prefix_len plain more in
      let P : ℕ → List ℕ → Type 0 = λ x y. Whole (pre ++ (123 ∷ x ∷ 58 ∷ y)) (marked title (Some m) pre more) in
      subst (λ x. P x more) (sym (letter_is k m e)) (subst (P (letter m)) (take-append-drop n more) (closed_whole m (take n more) (drop n more)))

  opened_whole : (rest : List ℕ) → Whole (pre ++ rest) (opened title pre rest)
  opened_whole [] = ap (all plain) (append-nil pre) ∙ clean
  opened_whole (a ∷ []) = tt
  opened_whole (a ∷ k ∷ []) = tt
  opened_whole (a ∷ k ∷ c ∷ more) =
      cond_both (eqb a 123 && eqb c 58) _ _ (Whole (pre ++ (a ∷ k ∷ c ∷ more)))
      (λ e.
      let both = and_parts (eqb a 123) (eqb c 58) e in
      subst (λ x. Whole (pre ++ (x ∷ k ∷ c ∷ more)) (marked title (mark_of k) pre more)) (sym (eqb-true a 123 both.0))
      (subst (λ x. Whole (pre ++ (123 ∷ k ∷ x ∷ more)) (marked title (mark_of k) pre more)) (sym (eqb-true c 58 both.1))
      (marked_whole k (mark_of k) more refl)))
      (λ _. tt)

pub whole : (title : Bool) (w : List ℕ) → Whole w (parts title w)
whole title w =
    let n = prefix_len plain w in
    subst (λ x. Whole x (parts title w)) (take-append-drop n w) (opened_whole title (take n w) (all_front plain w n refl) (drop n w))
