-- Where two lists first differ.
--   agreed             how many elements at the front are equal, by a test of two elements
--   FirstDifference    nowhere: they are equal; at i: they are the same before i and not up to i, since what stands there differs or one has ended
use Rattle.std.specs.Prelude.{◌≡◌, ℕ, ◌+◌, Bool, List, take, Some, None, Option, ◌≢◌}
use Rattle.std.specs.List.{zip, prefix_len}

abbrev pub agreed : {X : Type 0} → (X → X → Bool) → List X → List X → ℕ
agreed eq a b = prefix_len (λ p. eq p.0 p.1) (zip a b)

abbrev pub FirstDifference : {X : Type 0} → List X → List X → Option ℕ → Type 0
FirstDifference a b None = a ≡ b
FirstDifference a b (Some i) = (take i a ≡ take i b) × (take (i + 1) a ≢ take (i + 1) b)
