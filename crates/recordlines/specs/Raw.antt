-- Bytes of a frame as plain values, and what a frame's call answers.
--   raw          the position that was read, right or wrong
--   raw_label    a label that was read, right or wrong
--   Reads        what reading a position answers
--   Makes        what making an entry answers: the entry, where the value passes the test
--   Does         what a call that takes a frame answers and leaves
use Rattle.std.specs.Prelude.{◌≡◌, ℕ, Bool, true, false, List, Some, None, Ok, Err, Option, Result}
use Rattle.faults.specs.declared.cause.Cause.{Cause}
use Rattle.faults.specs.declared.cause.Cause.TheVariants.{FrameMalformed}
use Rattle.record.specs.Lists.{Lists}
use Rattle.record.specs.Positions.{Position, Label}
use Rattle.recordlines.specs.Step.{Step, keeps, ends, wrong, position_from}
use Rattle.recordlines.specs.declared.positions.RawPosition.{RawPosition}
use Rattle.recordlines.specs.declared.steps.Told.{Told}
use Rattle.recordlines.specs.declared.steps.Told.TheVariants.{Entry, End}

abbrev pub raw : RawPosition → Position
raw p = record { level = p.level; counters = p.counters; page = p.page }

abbrev pub raw_label : List ℕ → RawPosition → Label
raw_label n p = record { name = n; position = raw p }

abbrev pub Reads : List ℕ → Result RawPosition Cause → Type 0
Reads bs (Err c) = (position_from bs ≡ None) × (c ≡ FrameMalformed)
Reads bs (Ok p) = position_from bs ≡ Some (raw p)

abbrev pub Makes : {E X : Type 0} → (X → Bool) → (E → X) → X → Option E → Type 0
Makes ok of x None = ok x ≡ false
Makes ok of x (Some e) = (ok x ≡ true) × (of e ≡ x)

abbrev pub Does : Step → Result Told Cause → Lists → Lists → Type 0
Does s (Ok Entry) before after = s ≡ keeps after
Does s (Ok End) before after = (s ≡ ends) × (after ≡ before)
Does s (Err c) before after = (s ≡ wrong c) × (after ≡ before)
