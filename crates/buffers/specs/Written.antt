-- Bytes written into a lent buffer.
--   written    the buffer with bytes written at a place: every other byte stays
--   Puts       what writing bytes at a place answers and leaves: their end, or nothing where they do not fit
use Rattle.std.specs.Prelude.{◌≡◌, ℕ, ◌+◌, ◌<◌, ◌≤◌, List, [], ◌∷◌, ◌++◌, length, take, drop, Some, None, Option, refl}

abbrev pub written : List ℕ → ℕ → List ℕ → List ℕ
written out at bs = take at out ++ (bs ++ drop (at + length bs) out)

abbrev pub Puts : List ℕ → List ℕ → ℕ → Option ℕ → List ℕ → Type 0
Puts bs out at None after = (length out < at + length bs) × (after ≡ out)
Puts bs out at (Some end) after = (at + length bs ≤ length out) × (end ≡ at + length bs) × (after ≡ written out at bs)

middle : written (1 ∷ 2 ∷ 3 ∷ 4 ∷ []) 1 (8 ∷ 9 ∷ []) ≡ 1 ∷ 8 ∷ 9 ∷ 4 ∷ []
middle = refl
