-- The steps of decoding pairs of digits.
use Rattle.std.proofs.Common.{◌≡◌, ℕ, zero, suc, ◌+◌, ◌*◌, ◌/◌, ◌<◌, ◌≤◌, List, [], ◌∷◌, ◌++◌, length, get_or, drop, Some, None, Option, sym, refl, ap, ◌∙◌, subst, append_assoc, append-nil, arith}
use Rattle.std.specs.Simd.{first_chunks}
use Rattle.recordlines.specs.Hex.{after, then, pair_value_lem, bytes_of}

pub after_none : (r : Option (List ℕ)) → after [] r ≡ r
after_none None = refl
after_none (Some ys) = refl

after_more : (xs : List ℕ) (b : ℕ) (r : Option (List ℕ)) → after (xs ++ b ∷ []) r ≡ after xs (after (b ∷ []) r)
after_more xs b None = refl
after_more xs b (Some ys) = ap (λ l. Some l) (append_assoc xs (b ∷ []) ys)

-- the byte that a pair spells, if it spells one
abbrev pub byte_of : List ℕ → Option ℕ
byte_of p = pair_value_lem (get_or p 0 0) (get_or p 1 0)

next_pair : (k : ℕ) (ds : List ℕ) (i : ℕ) → k * 2 ≤ length ds → i < k → bytes_of (drop (i * 2) ds) ≡ then (byte_of (get_or (first_chunks 2 k ds) i [])) (bytes_of (drop (suc (suc (i * 2))) ds))
next_pair zero ds i r h = absurd (omega arith)
next_pair (suc k) [] i r h = absurd (omega arith)
next_pair (suc k) (a ∷ []) i r h = absurd (omega arith)
next_pair (suc k) (a ∷ b ∷ ds) zero r h = refl
next_pair (suc k) (a ∷ b ∷ ds) (suc i) r h =
    let far : suc (suc (i * 2)) ≡ suc i * 2 = omega arith in
    subst (λ n. bytes_of (drop n (a ∷ b ∷ ds)) ≡ then (byte_of (get_or (first_chunks 2 k ds) i [])) (bytes_of (drop (suc (suc n)) (a ∷ b ∷ ds)))) far (next_pair k ds i (omega arith) (omega arith))

-- the i-th pair of digits
module _ (ds : List ℕ) (ps : List (List ℕ)) (i : ℕ) (front : ps ≡ first_chunks 2 (length ds / 2) ds) (h : i < length ds / 2) where
  here : bytes_of (drop (i * 2) ds) ≡ then (byte_of (get_or ps i [])) (bytes_of (drop (suc (suc (i * 2))) ds))
  here = next_pair (length ds / 2) ds i (omega arith) h ∙ ap (λ qs. then (byte_of (get_or qs i [])) (bytes_of (drop (suc (suc (i * 2))) ds))) (sym front)

  -- it spells a byte
  pub byte_more : (xs : List ℕ) (b : ℕ) → byte_of (get_or ps i []) ≡ Some b → after (xs ++ b ∷ []) (bytes_of (drop ((i + 1) * 2) ds)) ≡ after xs (bytes_of (drop (i * 2) ds))
  byte_more xs b e =
      let far : (i + 1) * 2 ≡ suc (suc (i * 2)) = omega arith in
      after_more xs b _ ∙ ap (λ n. after xs (after (b ∷ []) (bytes_of (drop n ds)))) far ∙ ap (after xs) (sym (here ∙ ap (λ o. then o (bytes_of (drop (suc (suc (i * 2))) ds))) e))

  -- it spells none
  pub no_byte : (xs : List ℕ) → byte_of (get_or ps i []) ≡ None → after xs (bytes_of (drop (i * 2) ds)) ≡ None
  no_byte xs e = ap (after xs) (here ∙ ap (λ o. then o (bytes_of (drop (suc (suc (i * 2))) ds))) e)

-- behind the last pair
pub no_more : (xs rest : List ℕ) → length rest ≡ 0 → after xs (bytes_of rest) ≡ Some xs
no_more xs [] e = ap (λ l. Some l) (append-nil xs)
no_more xs (a ∷ rest) e = absurd (omega arith)

pub one_more : (xs rest : List ℕ) → length rest ≡ 1 → after xs (bytes_of rest) ≡ None
one_more xs [] e = absurd (omega arith)
one_more xs (a ∷ []) e = refl
one_more xs (a ∷ b ∷ rest) e = absurd (omega arith)
