-- A name's bytes in their array, and what the rule of a name says of their number.
use Rattle.std.proofs.Common.{◌≡◌, ℕ, ◌+◌, ◌-◌, ◌<◌, ◌≤◌, true, ◌&&◌, eqb, ltb, leb, List, [], ◌∷◌, Ok, Err, Result, is_ok, length, take, drop, replicate, sym, ap, ◌∙◌, ⊎_elim, arith, take_at, drop_at}
use Rattle.std.proofs.lemmas.List.{drop-replicate}
use Rattle.std.proofs.lemmas.Bool.{cond_both, and_parts, ltb-true, leb-true, eqb-true, cond-true, cond-false, cases_Bool, false≢true}
use Rattle.std.specs.List.{prefix_len, AllByRecursion}
use Rattle.std.proofs.lemmas.Bool.Decides.{nat_tests}
use Rattle.buffers.specs.Written.{written}
use Rattle.buffers.proofs.Writing.{length_written}
use Rattle.names.specs.Name.{name_byte}
use Rattle.names.specs.declared.NameError.{NameError}
use Rattle.names.specs.declared.NameError.TheVariants.{WrongLength, WrongCharacter}
use Rattle.record.specs.Right.{name_ok}

pub name_length : (bs : List ℕ) → name_ok bs ≡ true → (1 ≤ length bs) × (length bs ≤ 16)
unfolding name_ok
name_length bs =
    cond_both (ltb 0 (length bs) && leb (length bs) 16) _ (Err WrongLength) (λ (v : Result (Unit {0}) NameError). is_ok v ≡ true → (1 ≤ length bs) × (length bs ≤ 16))
    (λ t _. let h = and_parts _ _ t in (ltb-true 0 _ h.0, leb-true _ 16 h.1))
    (λ _ e. absurd (false≢true e))

-- bytes at the front of sixteen zeros
module _ (bs o : List ℕ) (n : ℕ) (few : length bs ≤ 16) (end : n ≡ 0 + length bs) (wrote : o ≡ written (replicate 16 0) 0 bs) where
  count : length bs ≡ n
  count = omega arith

  pub padded_long : (length o ≡ 16) × (n ≤ 16)
  padded_long = (ap length wrote ∙ length_written (replicate 16 0) 0 bs (omega arith), omega arith)

  pub padded_front : take n o ≡ bs
  padded_front = ap (take n) wrote ∙ take_at bs _ n count

  pub padded_rest : drop n o ≡ replicate (16 - n) 0
  padded_rest = ap (drop n) wrote ∙ drop_at bs _ n count ∙ ap (λ k. drop k (replicate 16 0)) (sym end) ∙ drop-replicate n 16 0

-- the characters of a name are ASCII
name_byte_small : (b : ℕ) → name_byte b ≡ true → b < 256
name_byte_small b e = grind (arith, nat_tests)

all_small : (bs : List ℕ) → prefix_len name_byte bs ≡ length bs → AllByRecursion (λ b. b < 256) bs
all_small [] e = tt
all_small (b ∷ bs) e =
    ⊎_elim
    (λ t.
    let s : prefix_len name_byte (b ∷ bs) ≡ 1 + prefix_len name_byte bs = cond-true _ _ _ t in
    (name_byte_small b t, all_small bs (omega arith)))
    (λ f. absurd (let s : prefix_len name_byte (b ∷ bs) ≡ 0 = cond-false _ _ _ f in omega arith))
    (cases_Bool (name_byte b))

pub name_bytes_small : (bs : List ℕ) → name_ok bs ≡ true → AllByRecursion (λ b. b < 256) bs
unfolding name_ok
name_bytes_small bs =
    let P : Result (Unit {0}) NameError → Type 0 = λ v. is_ok v ≡ true → AllByRecursion (λ b. b < 256) bs in
    cond_both (ltb 0 (length bs) && leb (length bs) 16) _ (Err WrongLength) P
    (λ _. cond_both (eqb (prefix_len name_byte bs) (length bs)) (Ok tt) (Err WrongCharacter) P (λ t _. all_small bs (eqb-true _ _ t)) (λ _ e. absurd (false≢true e)))
    (λ _ e. absurd (false≢true e))
