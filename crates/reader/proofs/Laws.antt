-- How lines and words come apart at a place of a text.
use Rattle.std.proofs.Common.{◌≡◌, ℕ, zero, suc, ◌+◌, ◌-◌, ◌<◌, ◌≤◌, Bool, true, not, List, [], ◌∷◌, length, get_or, take, drop, sym, refl, ap, ◌∙◌, subst, ⊎_elim, add-zero, add-one, one-add, arith, length-drop, length-take-le, drop-drop}
use Rattle.std.specs.List.{prefix_len}
use Rattle.std.proofs.lemmas.List.{at_drop_all, drop_more}
use Rattle.std.proofs.lemmas.List.Sums.{prefix_len-le-length}
use Rattle.std.proofs.lemmas.Bool.{cond-true, cond-false, cases_Bool}
use Rattle.reader.specs.Lines.{in_line, SourceLine, lines_past, lines_from}
use Rattle.reader.specs.Words.{space, in_word, words_past, words}

-- a longest front from a place stays within the list
pub leading_within : (p : ℕ → Bool) (t : List ℕ) (i : ℕ) → i ≤ length t → i + prefix_len p (drop i t) ≤ length t
leading_within p t i h = omega (arith, prefix_len-le-length p (drop i t), length-drop i t)

lines_skip : (k n i : ℕ) (t : List ℕ) → lines_past k n i t ≡ lines_from n (i + k) (drop k t)
lines_skip zero n i t = ap (λ m. lines_from n m t) (sym (add-zero i))
lines_skip (suc k) n i [] = refl
lines_skip (suc k) n i (b ∷ bs) =
    let e : i + 1 + k ≡ i + suc k = omega arith in
    lines_skip k n (i + 1) bs ∙ ap (λ m. lines_from n m (drop k bs)) e

-- the first line of what is left, and the lines after its newline
pub lines_cons : (n i b : ℕ) (bs : List ℕ) → lines_from n i (b ∷ bs) ≡ record { number = n; offset = i; bytes = take (prefix_len in_line (b ∷ bs)) (b ∷ bs) } ∷ lines_from (n + 1) (i + prefix_len in_line (b ∷ bs) + 1) (drop (prefix_len in_line (b ∷ bs) + 1) (b ∷ bs))
lines_cons n i b bs =
    let m = prefix_len in_line (b ∷ bs) in
    let e : i + 1 + m ≡ i + m + 1 = omega arith in
    ap (λ l. record { number = n; offset = i; bytes = take m (b ∷ bs) } ∷ l)
    (lines_skip m (n + 1) (i + 1) bs ∙ (λ k. lines_from (n + 1) (e k) (drop (sym (add-one m) k) (b ∷ bs))))

-- the same at a place of a text
pub lines_at : (t : List ℕ) (n i : ℕ) → i < length t → lines_from n i (drop i t) ≡ record { number = n; offset = i; bytes = take (prefix_len in_line (drop i t)) (drop i t) } ∷ lines_from (n + 1) (i + prefix_len in_line (drop i t) + 1) (drop (i + prefix_len in_line (drop i t) + 1) t)
lines_at t n i h =
    let P : List ℕ → Type 0 = λ l. lines_from n i l ≡ record { number = n; offset = i; bytes = take (prefix_len in_line l) l } ∷ lines_from (n + 1) (i + prefix_len in_line l + 1) (drop (prefix_len in_line l + 1) l) in
    let m = prefix_len in_line (drop i t) in
    let k : i + (m + 1) ≡ i + m + 1 = omega arith in
    subst P (sym (drop_more t i 0 h)) (lines_cons n i (get_or t i 0) (drop (i + 1) t))
    ∙ ap (λ l. record { number = n; offset = i; bytes = take m (drop i t) } ∷ lines_from (n + 1) (i + m + 1) l) (drop-drop (m + 1) i t ∙ ap (λ x. drop x t) k)

words_skip : (k i : ℕ) (t : List ℕ) → words_past k i t ≡ words (i + k) (drop k t)
words_skip zero i t = ap (λ m. words m t) (sym (add-zero i))
words_skip (suc k) i [] = refl
words_skip (suc k) i (b ∷ bs) =
    let e : i + 1 + k ≡ i + suc k = omega arith in
    words_skip k (i + 1) bs ∙ ap (λ m. words m (drop k bs)) e

-- a word at the front, and the words after it
pub words_cons : (i b : ℕ) (bs : List ℕ) → in_word b ≡ true → words i (b ∷ bs) ≡ record { offset = i; bytes = take (prefix_len in_word (b ∷ bs)) (b ∷ bs) } ∷ words (i + prefix_len in_word (b ∷ bs)) (drop (prefix_len in_word (b ∷ bs)) (b ∷ bs))
words_cons i b bs e =
    let m = prefix_len in_word bs in
    let n : prefix_len in_word (b ∷ bs) ≡ suc m = cond-true (in_word b) (1 + m) 0 e ∙ one-add m in
    let k : i + 1 + m ≡ i + suc m = omega arith in
    cond-true (in_word b) _ _ e
    ∙ ap (λ l. record { offset = i; bytes = take (prefix_len in_word (b ∷ bs)) (b ∷ bs) } ∷ l)
    (words_skip m (i + 1) bs ∙ ap (λ x. words x (drop m bs)) k ∙ ap (λ x. words (i + x) (drop x (b ∷ bs))) (sym n))

-- spaces at the front are passed over
pub words_spaces : (l : List ℕ) (i : ℕ) → words i l ≡ words (i + prefix_len space l) (drop (prefix_len space l) l)
words_spaces [] i = refl
words_spaces (b ∷ bs) i =
    ⊎_elim
    (λ e.
    let m = prefix_len space bs in
    let n : prefix_len space (b ∷ bs) ≡ suc m = cond-true (space b) (1 + m) 0 e ∙ one-add m in
    let k : i + 1 + m ≡ i + suc m = omega arith in
    cond-false (in_word b) _ _ (ap not e) ∙ words_spaces bs (i + 1) ∙ ap (λ x. words x (drop m bs)) k ∙ ap (λ x. words (i + x) (drop x (b ∷ bs))) (sym n))
    (λ e. let n : prefix_len space (b ∷ bs) ≡ 0 = cond-false (space b) _ _ e in ap (λ x. words x (b ∷ bs)) (sym (add-zero i)) ∙ ap (λ x. words (i + x) (drop x (b ∷ bs))) (sym n))
    (cases_Bool (space b))

-- the line at a place, by where it ends and where the next one begins
module _ (t : List ℕ) (n i m : ℕ) (inside : i < length t) (run : m ≡ prefix_len in_line (drop i t)) where
  pub line_here : lines_from n i (drop i t) ≡ record { number = n; offset = i; bytes = take (i + m - i) (drop i t) } ∷ lines_from (n + 1) (i + m + 1) (drop (i + m + 1) t)
  line_here =
      let k : prefix_len in_line (drop i t) ≡ i + m - i = omega arith in
      lines_at t n i inside
      ∙ (λ j. record { number = n; offset = i; bytes = take (k j) (drop i t) } ∷ lines_from (n + 1) (i + sym run j + 1) (drop (i + sym run j + 1) t))

  pub last_line : length t ≤ i + m → lines_from n i (drop i t) ≡ record { number = n; offset = i; bytes = take (i + m - i) (drop i t) } ∷ lines_from (n + 1) (i + m) (drop (i + m) t)
  last_line h =
      let past : lines_from (n + 1) (i + m + 1) (drop (i + m + 1) t) ≡ [] = at_drop_all (lines_from (n + 1) (i + m + 1)) t (i + m + 1) (omega arith) in
      let here : lines_from (n + 1) (i + m) (drop (i + m) t) ≡ [] = at_drop_all (lines_from (n + 1) (i + m)) t (i + m) h in
      line_here ∙ ap (λ l. record { number = n; offset = i; bytes = take (i + m - i) (drop i t) } ∷ l) (past ∙ sym here)

  pub line_length : length (take (i + m - i) (drop i t)) ≡ m
  line_length =
      let k : i + m - i ≡ m = omega arith in
      let fits : m ≤ length (drop i t) = omega (arith, prefix_len-le-length in_line (drop i t)) in
      ap (λ x. length (take x (drop i t))) k ∙ length-take-le m (drop i t) fits

-- words from a place on, of which the first byte counts as the b-th, are those after the spaces there
pub words_after : (l : List ℕ) (b at s : ℕ) → s ≡ prefix_len space (drop at l) → words b (drop at l) ≡ words (b + s) (drop (at + s) l)
words_after l b at s spaces =
    words_spaces (drop at l) b
    ∙ (λ j. words (b + sym spaces j) (drop (sym spaces j) (drop at l)))
    ∙ ap (words (b + s)) (drop-drop s at l)

-- where a longest run of spaces ends, a byte that is there begins a word
starts : (l : List ℕ) → prefix_len in_word (drop (prefix_len space l) l) ≡ 0 → drop (prefix_len space l) l ≡ []
starts [] h = refl
starts (b ∷ bs) h =
    ⊎_elim
    (λ e.
    let n : prefix_len space (b ∷ bs) ≡ suc (prefix_len space bs) = cond-true (space b) (1 + prefix_len space bs) 0 e ∙ one-add (prefix_len space bs) in
    ap (λ x. drop x (b ∷ bs)) n ∙ starts bs (ap (λ x. prefix_len in_word (drop x (b ∷ bs))) (sym n) ∙ h))
    (λ e.
    let n : prefix_len space (b ∷ bs) ≡ 0 = cond-false (space b) _ _ e in
    let m : 1 + prefix_len in_word bs ≡ 0 = sym (cond-true (in_word b) (1 + prefix_len in_word bs) 0 (ap not e)) ∙ ap (λ x. prefix_len in_word (drop x (b ∷ bs))) (sym n) ∙ h in
    absurd (omega arith))
    (cases_Bool (space b))

-- no byte after the spaces from a place on, and so no word
module _ (l : List ℕ) (at s : ℕ) (spaces : s ≡ prefix_len space (drop at l)) (none : prefix_len in_word (drop (at + s) l) ≡ 0) where
  pub nothing_after : drop (at + s) l ≡ []
  nothing_after =
      let same : drop (prefix_len space (drop at l)) (drop at l) ≡ drop (at + s) l = ap (λ x. drop x (drop at l)) (sym spaces) ∙ drop-drop s at l in
      sym same ∙ starts (drop at l) (ap (prefix_len in_word) same ∙ none)

  pub words_none : (b : ℕ) → words b (drop at l) ≡ []
  words_none b = words_after l b at s spaces ∙ ap (words (b + s)) nothing_after

-- a run that is not empty begins with a byte of its class
pub first_in : (l : List ℕ) (i : ℕ) → 0 < prefix_len in_word (drop i l) → (i < length l) × (in_word (get_or l i 0) ≡ true)
first_in [] i h = absurd (omega (arith, at_drop_all (prefix_len in_word) [] i (omega arith)))
first_in (b ∷ bs) zero h = (omega arith, ⊎_elim (λ e. e) (λ e. let z : prefix_len in_word (b ∷ bs) ≡ 0 = cond-false (in_word b) _ _ e in absurd (omega arith)) (cases_Bool (in_word b)))
first_in (b ∷ bs) (suc i) h = let r = first_in bs i h in (omega (arith, r.0), r.1)

-- the word after the spaces from a place on, and the words after it
module _ (l : List ℕ) (at s n : ℕ) (spaces : s ≡ prefix_len space (drop at l)) (run : n ≡ prefix_len in_word (drop (at + s) l)) where
  pub word_length : length (take n (drop (at + s) l)) ≡ n
  word_length =
      let fits : n ≤ length (drop (at + s) l) = omega (arith, prefix_len-le-length in_word (drop (at + s) l)) in
      length-take-le n (drop (at + s) l) fits

  pub word_here : (b : ℕ) → 0 < n → words b (drop at l) ≡ record { offset = b + s; bytes = take n (drop (at + s) l) } ∷ words (b + s + n) (drop (at + s + n) l)
  word_here b some =
      let o = at + s in
      let f = first_in l o (omega arith) in
      let P : List ℕ → Type 0 = λ x. words (b + s) x ≡ record { offset = b + s; bytes = take (prefix_len in_word x) x } ∷ words (b + s + prefix_len in_word x) (drop (prefix_len in_word x) x) in
      words_after l b at s spaces
      ∙ subst P (sym (drop_more l o 0 f.0)) (words_cons (b + s) (get_or l o 0) (drop (o + 1) l) f.1)
      ∙ (λ j. record { offset = b + s; bytes = take (sym run j) (drop o l) } ∷ words (b + s + sym run j) (drop (sym run j) (drop o l)))
      ∙ ap (λ x. record { offset = b + s; bytes = take n (drop o l) } ∷ words (b + s + n) x) (drop-drop n o l)

-- the first of the lines from a number on has that number
pub first_number : (n i : ℕ) (t : List ℕ) (l : SourceLine) (ls : List SourceLine) → lines_from n i t ≡ l ∷ ls → l.number ≡ n
first_number n i [] l ls e = cc
first_number n i (b ∷ bs) l ls e =
    let same : record { number = n; offset = i; bytes = take (prefix_len in_line (b ∷ bs)) (b ∷ bs) } ≡ l = cc in
    ap (λ (x : SourceLine). x.number) (sym same)
