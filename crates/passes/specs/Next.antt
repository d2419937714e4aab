-- A pass as a function from record to record.
--   next           what a pass over a text makes of the record before: the new record and the count of words, or a fault; the
--                  pass number stands in the fault alone
--   next_record    the new record alone, if the pass is not refused: the step of which a verdict is given
--   Makes          what making a pass answers, with what was found
--   ApartMade      the names of a record that was made are apart
use Rattle.std.specs.Prelude.{◌≡◌, ℕ, true, List, Ok, Err, Option, Result}
use Rattle.faults.specs.declared.fault.Fault.{Fault}
use Rattle.findings.specs.Next.{Found, found, stopped, found_by, record_of}
use Rattle.layout.specs.Meaning.{Meaning}
use Rattle.numerals.specs.declared.style.NumeralStyle.{NumeralStyle}
use Rattle.record.specs.Labels.{distinct}
use Rattle.record.specs.Lists.{Lists}
use Rattle.typeset.specs.Items.{items}
use Rattle.typeset.specs.Script.{script}

abbrev pub next : {L Mark : Type 0} (m : Meaning L Mark) → m.Settings → NumeralStyle → List ℕ → ℕ → Lists → Found
next m s style text pass old = found_by m s pass (script style old (items text))

abbrev pub next_record : {L Mark : Type 0} (m : Meaning L Mark) → m.Settings → NumeralStyle → List ℕ → Lists → Option Lists
next_record m s style text old = record_of (next m s style text 0 old)

abbrev pub Makes : Found → Result ℕ Fault → Lists → Type 0
Makes v (Ok n) ls = v ≡ found ls n
Makes v (Err f) ls = v ≡ stopped f

abbrev pub ApartMade : {X : Type 0} → Result X Fault → Lists → Type 0
ApartMade (Ok n) ls = distinct ls.labels ≡ true
ApartMade (Err f) ls = Unit {0}
