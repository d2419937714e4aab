-- The values of the tables that a check fills, and what its steps answer.
--   held       the names in a label table
--   seen       what a tally holds
--   after      the answer of a step together with the tally that it leaves
--   faulted    the fault of a step that changes nothing
use Rattle.std.specs.Prelude.{ℕ, List, map, Some, None, Ok, Err, Option, Result}
use Rattle.faults.specs.declared.fault.Fault.{Fault}
use Rattle.manuscript.specs.Scanning.{Seen}
use Rattle.manuscript.specs.declared.labels.Labels.{Labels}
use Rattle.manuscript.specs.declared.tally.Tally.{Tally}

abbrev pub held : Labels → List (List ℕ)
held l = map (λ r. r.now) l.names.items

abbrev pub seen : Tally → Seen
seen t = record { headings = t.headings; contents = t.contents; labels = held t.labels }

abbrev pub after : {X : Type 0} → Result X Fault → Tally → Result Seen Fault
after (Ok x) t = Ok (seen t)
after (Err f) t = Err f

abbrev pub faulted : {X : Type 0} → Result X Fault → Option Fault
faulted (Ok x) = None
faulted (Err f) = Some f
