-- What a pass finds.
--   Found        the record and the number of words, or the fault that stopped it
--   words_of     the words that were put
--   concluded    what a trace comes to
--   found_by     what playing acts from the opening place finds
--   record_of    the record, if there is one
use Rattle.std.specs.Prelude.{◌≡◌, ℕ, List, [], length, Some, None, Option, refl}
use Rattle.compose.specs.Acts.{Act}
use Rattle.faults.specs.declared.fault.Fault.{Fault}
use Rattle.layout.specs.Meaning.{Meaning}
use Rattle.record.specs.Lists.{Lists, no_entries}
use Rattle.setting.specs.Tracing.{SetWord, Trace, all, upto, trace}
use Rattle.findings.specs.Made.{made}

pub data Found : Type 0 where
  found : Lists → ℕ → Found
  stopped : Fault → Found

abbrev pub words_of : {Place : Type 0} → Trace Place → List SetWord
words_of (all ws q) = ws
words_of (upto ws q f) = ws

abbrev pub concluded : {Place : Type 0} → Trace Place → Found
concluded (all ws q) = found (made ws) (length ws)
concluded (upto ws q f) = stopped f

abbrev pub found_by : {L Mark : Type 0} (m : Meaning L Mark) → m.Settings → ℕ → List Act → Found
found_by m s pass acts = concluded (trace m s pass (m.opening s) acts)

abbrev pub record_of : Found → Option Lists
record_of (found ls n) = Some ls
record_of (stopped f) = None

no_acts : {L Mark : Type 0} (m : Meaning L Mark) (s : m.Settings) → found_by m s 1 [] ≡ found no_entries 0
no_acts m s = refl
