-- What locking answers.
--   LockStep     a settled session is locked with the same numbers; any other comes back as it was
use Rattle.std.specs.Prelude.{◌≡◌, true, false, Ok, Err, Result}
use Rattle.faults.specs.declared.cause.Cause.TheVariants.{NotSettled}
use Rattle.faults.specs.declared.fault.Fault.{Fault}
use Rattle.session.specs.Faulting.{at_pass_lem}
use Rattle.session.specs.Outcomes.{is_settled}
use Rattle.session.specs.declared.sessions.Passing.{Passing}
use Rattle.session.specs.declared.sessions.Locked.{Locked}

-- the numbers of a locked session are those of the passing one
abbrev pub SameNumbers : Passing → Locked → Type 0
SameNumbers s l = l.numbers ≡ s.numbers

abbrev pub LockStep : Passing → Result Locked (Fault × Passing) → Type 0
LockStep s (Ok l) = (is_settled s.numbers.progress.outcome ≡ true) × SameNumbers s l
LockStep s (Err e) = (is_settled s.numbers.progress.outcome ≡ false) × (e.0 ≡ at_pass_lem NotSettled s.numbers.progress.passes) × (e.1 ≡ s)
