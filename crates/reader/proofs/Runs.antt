-- The words of a line are its longest runs of bytes without a space.
use Rattle.std.proofs.Common.{◌≡◌, ℕ, zero, suc, ◌+◌, ◌<◌, ◌≤◌, true, not, ◌⊎◌, List, ◌∷◌, length, get_or, take, drop, sym, refl, ap, ◌∙◌, subst, inl, inr, ⊎_elim, add-zero, arith, length-drop}
use Rattle.std.specs.List.{prefix_len, AllByRecursion}
use Rattle.std.proofs.lemmas.List.{drop_all}
use Rattle.std.proofs.lemmas.Bool.{cases_lt, eqb-true, eq-eqb, not-false, both_ways}
use Rattle.reader.specs.Words.{space, in_word, SourceWord, words}
use Rattle.reader.specs.Laws.{LongestRun, Within, WordsLaw}
use Rattle.runs.proofs.Fronts.{stops_at, passes_at, all_front}
use Rattle.reader.proofs.Laws.{nothing_after, words_none, first_in, word_length, word_here}

-- a byte that is a space is no byte of a word
apart : (b : ℕ) → space b ≡ true → in_word b ≡ true → ⊥
apart b s w = both_ways (in_word b) (ap not s) w

-- a place at the front, or one where a space or nothing stands
abbrev Edge : List ℕ → ℕ → Type 0
Edge l at = (at ≡ 0) ⊎ (at < length l → get_or l at 0 ≡ 32)

-- the law for the words from a place on
abbrev RunsFrom : ℕ → List ℕ → ℕ → List SourceWord → Type 0
RunsFrom i l at ws = AllByRecursion (LongestRun i l) ws × ((k : ℕ) → at ≤ k → k < length l → in_word (get_or l k 0) ≡ true → Within (i + k) ws)

module _ (i : ℕ) (l : List ℕ) (at s n : ℕ) (spaces : s ≡ prefix_len space (drop at l)) (run : n ≡ prefix_len in_word (drop (at + s) l)) where
  gap : (k : ℕ) → at ≤ k → k < at + s → space (get_or l k 0) ≡ true
  gap k a b = passes_at space l at s k spaces a b

  none_left : n ≡ 0 → RunsFrom i l at (words (i + at) (drop at l))
  none_left nil =
      let empty : prefix_len in_word (drop (at + s) l) ≡ 0 = sym run ∙ nil in
      let short : length (drop (at + s) l) ≡ 0 = ap length (nothing_after l at s spaces empty) in
      subst (RunsFrom i l at) (sym (words_none l at s spaces empty (i + at)))
      (tt, λ k a b w. apart (get_or l k 0) (gap k a (omega (arith, length-drop (at + s) l))) w)

  behind_word : at + s + n < length l → get_or l (at + s + n) 0 ≡ 32
  behind_word h = eqb-true (get_or l (at + s + n) 0) 32 (not-false _ (stops_at in_word l (at + s) n run h))

  before_word : Edge l at → 0 < n → (k : ℕ) → suc k ≡ at + s → get_or l k 0 ≡ 32
  before_word edge some k e =
      ⊎_elim
      (λ inside. eqb-true (get_or l k 0) 32 (gap k (omega arith) (omega arith)))
      (λ outside.
      let here : at + s ≡ at = omega arith in
      let f = first_in l (at + s) (omega arith) in
      ⊎_elim (λ front. absurd (omega arith))
      (λ h. absurd (apart (get_or l (at + s) 0) (eq-eqb _ 32 (ap (λ x. get_or l x 0) here ∙ h (omega (arith, f.0)))) f.1))
      edge)
      (cases_lt at (at + s))

  some_left : Edge l at → 0 < n → RunsFrom i l (at + s + n) (words (i + (at + s + n)) (drop (at + s + n) l)) → RunsFrom i l at (words (i + at) (drop at l))
  some_left edge some rest =
      let w : SourceWord = record { offset = i + at + s; bytes = take n (drop (at + s) l) } in
      let long : length (take n (drop (at + s) l)) ≡ n = word_length l at s n spaces run in
      let sum : i + at + s + n ≡ i + (at + s + n) = omega arith in
      let ws = words (i + (at + s + n)) (drop (at + s + n) l) in
      let shape : words (i + at) (drop at l) ≡ w ∷ ws = word_here l at s n spaces run (i + at) some ∙ ap (λ x. w ∷ words x (drop (at + s + n) l)) sum in
      let longest : LongestRun i l w =
      record {
        at = at + s;
        offset = omega arith;
        stands = ap (λ x. take x (drop (at + s) l)) long;
        some = omega (arith, long);
        unbroken = all_front in_word (drop (at + s) l) n run;
        before = before_word edge some;
        behind = λ h. ap (λ x. get_or l (at + s + x) 0) long ∙ behind_word (omega (arith, long));
      } in
      let covered : (k : ℕ) → at ≤ k → k < length l → in_word (get_or l k 0) ≡ true → Within (i + k) (w ∷ ws) =
      λ k a b c.
      ⊎_elim
      (λ early. absurd (apart (get_or l k 0) (gap k a early) c))
      (λ late. ⊎_elim (λ inside. inl (omega arith, omega (arith, long))) (λ past. inr (rest.1 k past b c)) (cases_lt k (at + s + n)))
      (cases_lt k (at + s)) in
      subst (RunsFrom i l at) (sym shape) ((longest, rest.0), covered)

runs_from : (fuel : ℕ) (i : ℕ) (l : List ℕ) (at : ℕ) → length l ≤ at + fuel → Edge l at → RunsFrom i l at (words (i + at) (drop at l))
runs_from zero i l at h edge = subst (λ x. RunsFrom i l at (words (i + at) x)) (sym (drop_all at l (omega arith))) (tt, λ k a b c. absurd (omega arith))
runs_from (suc fuel) i l at h edge =
    let s = prefix_len space (drop at l) in
    let n = prefix_len in_word (drop (at + s) l) in
    ⊎_elim
    (λ some. some_left i l at s n refl refl edge some (runs_from fuel i l (at + s + n) (omega arith) (inr (behind_word i l at s n refl refl))))
    (λ none. none_left i l at s n refl refl (omega arith))
    (cases_lt 0 n)

pub words_law : (i : ℕ) (l : List ℕ) → WordsLaw i l
words_law i l =
    let r = runs_from (length l) i l 0 (omega arith) (inl refl) in
    subst (λ x. AllByRecursion (LongestRun i l) (words x l) × ((k : ℕ) → k < length l → in_word (get_or l k 0) ≡ true → Within (i + k) (words x l))) (add-zero i)
    (r.0, λ k b c. r.1 k (omega arith) b c)
