-- What saving answers and leaves.
--   SaveStep     the lines of a record at the front of the buffer, and their count; where it is too short, nothing
use Rattle.std.specs.Prelude.{◌≡◌, ℕ, ◌<◌, ◌≤◌, List, length, Ok, Err, Result}
use Rattle.buffers.specs.Written.{written}
use Rattle.faults.specs.declared.cause.Cause.TheVariants.{BufferTooShort}
use Rattle.faults.specs.declared.fault.Fault.{Fault}
use Rattle.record.specs.Lists.{Lists}
use Rattle.recordlines.specs.Frame.{lines}
use Rattle.session.specs.Faulting.{at_pass_lem}

abbrev pub SaveStep : ℕ → Lists → List ℕ → Result ℕ Fault → List ℕ → Type 0
SaveStep passes x out (Ok n) after = (n ≡ length (lines x)) × (n ≤ length out) × (after ≡ written out 0 (lines x))
SaveStep passes x out (Err f) after = (f ≡ at_pass_lem BufferTooShort passes) × (length out < length (lines x)) × (after ≡ out)
