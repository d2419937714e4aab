-- The lines of a text. A last line may lack its newline, and a newline at the end begins no further line.
--   in_line       a byte that is no newline
--   SourceLine    a line with its number, from 1, and the offset of its first byte, from 0
--   lines_past    the lines from a number and an offset on, after k bytes that are passed over
--   lines_from    the same with no byte passed over
--   lines         the lines of a whole text
use Rattle.std.specs.Prelude.{◌≡◌, ℕ, zero, suc, ◌+◌, Bool, not, List, [], ◌∷◌, take, codes, ◌==◌, refl}
use Rattle.std.specs.List.{prefix_len}

abbrev pub in_line : ℕ → Bool
in_line b = not (b == 10)

pub record SourceLine : Type 0 where
  pub number : ℕ
  pub offset : ℕ
  pub bytes : List ℕ

abbrev pub lines_past : ℕ → ℕ → ℕ → List ℕ → List SourceLine
lines_past k n i [] = []
lines_past (suc k) n i (b ∷ bs) = lines_past k n (i + 1) bs
lines_past zero n i (b ∷ bs) =
    record { number = n; offset = i; bytes = take (prefix_len in_line (b ∷ bs)) (b ∷ bs) }
    ∷ lines_past (prefix_len in_line (b ∷ bs)) (n + 1) (i + 1) bs

abbrev pub lines_from : ℕ → ℕ → List ℕ → List SourceLine
lines_from n i t = lines_past 0 n i t

abbrev pub lines : List ℕ → List SourceLine
lines t = lines_from 1 0 t

three : lines (codes "a b\n\nc") ≡ record { number = 1; offset = 0; bytes = codes "a b" } ∷ record { number = 2; offset = 4; bytes = [] } ∷ record { number = 3; offset = 5; bytes = codes "c" } ∷ []
three = refl

-- a newline at the end begins no further line
last : lines (codes "a\n") ≡ record { number = 1; offset = 0; bytes = codes "a" } ∷ []
last = refl
