-- The words of a line.
--   space         the byte of a space
--   in_word       a byte that is no space
--   SourceWord    a word with the offset of its first byte in its line
--   words_past    the words of bytes of which the next one is the i-th of the line, after k that are passed over
--   words         the same with no byte passed over
use Rattle.std.specs.Prelude.{◌≡◌, ℕ, zero, suc, ◌+◌, Bool, cond, not, List, [], ◌∷◌, take, codes, ◌==◌, refl}
use Rattle.std.specs.List.{prefix_len}

abbrev pub space : ℕ → Bool
space b = b == 32

abbrev pub in_word : ℕ → Bool
in_word b = not (space b)

pub record SourceWord : Type 0 where
  pub offset : ℕ
  pub bytes : List ℕ

abbrev pub words_past : ℕ → ℕ → List ℕ → List SourceWord
words_past k i [] = []
words_past (suc k) i (b ∷ bs) = words_past k (i + 1) bs
words_past zero i (b ∷ bs) =
    cond (in_word b)
    (record { offset = i; bytes = take (prefix_len in_word (b ∷ bs)) (b ∷ bs) } ∷ words_past (prefix_len in_word bs) (i + 1) bs)
    (words_past 0 (i + 1) bs)

abbrev pub words : ℕ → List ℕ → List SourceWord
words i l = words_past 0 i l

two : words 0 (codes " ab  c") ≡ record { offset = 1; bytes = codes "ab" } ∷ record { offset = 5; bytes = codes "c" } ∷ []
two = refl
