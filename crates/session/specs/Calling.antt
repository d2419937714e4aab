-- A pass of a session over a text, on a layout: x and y are the layout before and after, m is what it means.
--   pass_made      what the pass finds
--   own_step       the step of the session's run: the record that a pass makes of the one before
--   LayoutLeft     the layout keeps its settings; it is rewound where the pass was begun, and else as it was
--   passed_of      what a pass answers, where its verdict is answered too
use Rattle.std.specs.Prelude.{ℕ, ◌+◌, List, Ok, Err, Option, Result}
use Rattle.faults.specs.declared.fault.Fault.{Fault}
use Rattle.findings.specs.Next.{Found}
use Rattle.layout.specs.Calls.{Left}
use Rattle.layout.specs.Meaning.{Meaning}
use Rattle.passes.specs.Next.{next, next_record}
use Rattle.record.specs.Lists.{Lists}
use Rattle.verdict.specs.declared.outcome.Verdict.{Verdict}
use Rattle.session.specs.Desk.{Desk}
use Rattle.session.specs.Passing.{barred, place_left}
use Rattle.session.specs.declared.passed.Passed.{Passed}
use Rattle.session.specs.declared.numbers.Numbers.{Numbers}

module _ {L Mark : Type 0} (m : Meaning L Mark) where
  abbrev pub pass_made : List ℕ → Numbers → L → Desk → Found
  pass_made text s x d = next m (m.settings x) s.style text (s.progress.passes + 1) d.current

  abbrev pub own_step : List ℕ → Numbers → L → Lists → Option Lists
  own_step text s x = next_record m (m.settings x) s.style text

  abbrev pub LayoutLeft : Numbers → L → L → Type 0
  LayoutLeft s x y = Left m x y (place_left (barred s) (m.place x) (m.opening (m.settings x)))

abbrev pub passed_of : Result (Passed × Verdict) Fault → Result Passed Fault
passed_of (Ok p) = Ok p.0
passed_of (Err f) = Err f
