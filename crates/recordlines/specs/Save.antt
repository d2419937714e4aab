-- What saving does to a buffer, and the laws that bind saving to loading.
--   Saves           the lines at the front of the buffer and their count; where it is too short, nothing
--   LoadsAgain      what saving writes loads as the same lists
use Rattle.std.specs.Prelude.{◌≡◌, ℕ, ◌<◌, ◌≤◌, List, length, Ok, Err, Result}
use Rattle.buffers.specs.Written.{written}
use Rattle.faults.specs.Faults.{plain}
use Rattle.faults.specs.declared.cause.Cause.TheVariants.{BufferTooShort}
use Rattle.faults.specs.declared.fault.Fault.{Fault}
use Rattle.record.specs.Lists.{Lists}
use Rattle.recordlines.specs.Frame.{lines}
use Rattle.recordlines.specs.Load.{loaded, accepted}

abbrev pub Saves : Lists → List ℕ → Result ℕ Fault → List ℕ → Type 0
Saves ls out (Ok n) after = (n ≡ length (lines ls)) × (n ≤ length out) × (after ≡ written out 0 (lines ls))
Saves ls out (Err f) after = (f ≡ plain BufferTooShort) × (length out < length (lines ls)) × (after ≡ out)

abbrev pub LoadsAgain : Lists → Type 0
LoadsAgain ls = loaded (lines ls) ≡ accepted ls
