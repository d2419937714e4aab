-- The laws of `written`: one text after another.
use Rattle.std.proofs.Common.{◌≡◌, ℕ, ◌+◌, ◌≤◌, List, ◌++◌, length, take, drop, sym, ap, ◌∙◌, append_assoc, add_assoc, arith, length-append, length-drop, length-take-le, drop-drop, take_at, drop_at}
use Rattle.buffers.specs.Written.{written}

module _ (o : List ℕ) (at : ℕ) (a : List ℕ) (h : at + length a ≤ length o) where
  long : length (take at o ++ a) ≡ at + length a
  long = length-append (take at o) a ∙ ap (λ n. n + length a) (length-take-le at o (omega arith))

  parts : written o at a ≡ (take at o ++ a) ++ drop (at + length a) o
  parts = sym (append_assoc (take at o) a (drop (at + length a) o))

  pub length_written : length (written o at a) ≡ length o
  length_written = ap length parts ∙ simp (length-append, length-drop, length-take-le at o (omega arith)) (omega arith)

  pub written_more : (b : List ℕ) → written (written o at a) (at + length a) b ≡ written o at (a ++ b)
  written_more b =
      let p = take at o ++ a in
      let n = at + length a in
      let front : take n (written o at a) ≡ p = ap (take n) parts ∙ take_at p (drop n o) n long in
      let back : drop n (written o at a) ≡ drop n o = ap (drop n) parts ∙ drop_at p (drop n o) n long in
      let end : drop (n + length b) (written o at a) ≡ drop (n + length b) o = sym (drop-drop (length b) n (written o at a)) ∙ ap (drop (length b)) back ∙ drop-drop (length b) n o in
      let far : n + length b ≡ at + length (a ++ b) = add_assoc at (length a) (length b) ∙ ap (λ k. at + k) (sym (length-append a b)) in
      (λ i. front i ++ (b ++ end i)) ∙ append_assoc (take at o) a (b ++ drop (n + length b) o) ∙ ap (λ l. take at o ++ l) (sym (append_assoc a b (drop (n + length b) o)) ∙ ap (λ k. (a ++ b) ++ drop k o) far)

-- two calls that write, the second where the first ended
pub then_written : (o : List ℕ) (at : ℕ) (a b : List ℕ) {p q : List ℕ} {m n : ℕ} → at + length a ≤ length o → m ≡ at + length a → p ≡ written o at a → n ≡ m + length b → q ≡ written p m b → (n ≡ at + length (a ++ b)) × (q ≡ written o at (a ++ b))
then_written o at a b h e w f v = (
  simp length-append (omega arith),
  v ∙ (λ i. written (w i) (e i) b) ∙ written_more o at a h b,
)
