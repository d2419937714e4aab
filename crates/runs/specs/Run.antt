-- Runs of bytes; the longest front that passes a test is the library's `prefix_len`.
--   all     every element passes a test
use Rattle.std.specs.Prelude.{ℕ, Bool, List, length, ◌==◌}
use Rattle.std.specs.List.{prefix_len}

abbrev pub all : (ℕ → Bool) → List ℕ → Bool
all p xs = prefix_len p xs == length xs
