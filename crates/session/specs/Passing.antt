-- What a pass answers and leaves. What it makes is a plain value here: nothing below knows of layouts.
--   barred       whether a session makes a pass, or the fault that it refuses every pass with
--   Refuses      the answer is this fault; session and desk are as they were
--   Accepts      the record that was found is taken in; the answer is the number of the pass and that of its words
--   PassMade     a pass that was begun: what it found is taken in, or its fault is answered
--   PassStep     a pass
--   place_left   the place of the layout: as it was where the pass was not begun, else the opening one
--   LeadsOn      where a pass makes the next record of a run, it leads to where the run leads next
use Rattle.std.specs.Prelude.{◌≡◌, ℕ, ◌+◌, true, cond, Ok, Err, Option, Result, nat_lt}
use Rattle.faults.specs.declared.cause.Cause.TheVariants.{PassLimitReached, VerdictReached}
use Rattle.faults.specs.declared.fault.Fault.{Fault}
use Rattle.findings.specs.Next.{Found, found, stopped, record_of}
use Rattle.record.specs.Lists.{Lists}
use Rattle.verdict.specs.Brent.{takes}
use Rattle.session.specs.Desk.{Desk}
use Rattle.session.specs.Faulting.{at_pass_lem}
use Rattle.session.specs.Outcomes.{is_open}
use Rattle.session.specs.Taking.{Taken, LeadsTo}
use Rattle.session.specs.declared.passed.Passed.{Passed}
use Rattle.session.specs.declared.numbers.Numbers.{Numbers}

abbrev pub barred : Numbers → Result (Unit {0}) Fault
barred s =
    cond (is_open s.progress.outcome)
    (cond (nat_lt s.progress.passes s.limit) (Ok tt) (Err (at_pass_lem PassLimitReached s.progress.passes)))
    (Err (at_pass_lem VerdictReached s.progress.passes))

pub record Refuses (f : Fault) (s : Numbers) (d : Desk) (r : Result Passed Fault) (t : Numbers) (e : Desk) : Type 0 where
  pub answer : r ≡ Err f
  pub session : t ≡ s
  pub desk : e ≡ d

pub record Accepts (new : Lists) (words : ℕ) (s : Numbers) (d : Desk) (r : Result Passed Fault) (t : Numbers) (e : Desk) : Type 0 where
  pub answer : r ≡ Ok (record { number = s.progress.passes + 1; words = words })
  pub style : t.style ≡ s.style
  pub limit : t.limit ≡ s.limit
  pub takes_it : takes s.progress ≡ true
  pub taken : Taken new s.progress d t.progress e

abbrev pub PassMade : Found → Numbers → Desk → Result Passed Fault → Numbers → Desk → Type 0
PassMade (found new words) s d r t e = Accepts new words s d r t e
PassMade (stopped f) s d r t e = Refuses f s d r t e

abbrev pub PassBy : Result (Unit {0}) Fault → Found → Numbers → Desk → Result Passed Fault → Numbers → Desk → Type 0
PassBy (Err f) made s d r t e = Refuses f s d r t e
PassBy (Ok u) made s d r t e = PassMade made s d r t e

abbrev pub PassStep : Found → Numbers → Desk → Result Passed Fault → Numbers → Desk → Type 0
PassStep made s d r t e = PassBy (barred s) made s d r t e

abbrev pub place_left : {Place : Type 0} → Result (Unit {0}) Fault → Place → Place → Place
place_left (Err f) here opening = here
place_left (Ok u) here opening = opening

abbrev pub LeadsOn : Type 0
LeadsOn =
    (made : Found) (s t : Numbers) (d e : Desk) (r : Result Passed Fault) → PassStep made s d r t e →
    (f : Lists → Option Lists) (x : Lists) → f d.current ≡ record_of made → LeadsTo f x s.progress d → LeadsTo f x t.progress e
