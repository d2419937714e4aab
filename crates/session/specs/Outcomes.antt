-- What is said of a run, as tests.
--   is_open       nothing has been seen yet
--   is_settled    the last pass gave back what it began with
use Rattle.std.specs.Prelude.{Bool, true, false}
use Rattle.verdict.specs.declared.outcome.Outcome.{Outcome}
use Rattle.verdict.specs.declared.outcome.Outcome.TheVariants.{Open, Settled, Oscillates}

abbrev pub is_open : Outcome → Bool
is_open Open = true
is_open Settled = false
is_open Oscillates = false

abbrev pub is_settled : Outcome → Bool
is_settled Open = false
is_settled Settled = true
is_settled Oscillates = false
