-- The faults of a session.
--   at_pass_lem    a fault of no line and no name, with a number of passes
use Rattle.std.specs.Prelude.{ℕ, None}
use Rattle.faults.specs.declared.cause.Cause.{Cause}
use Rattle.faults.specs.declared.fault.Fault.{Fault}

abbrev pub at_pass_lem : Cause → ℕ → Fault
at_pass_lem c k = record { cause = c; line = None; name = None; pass = k }
