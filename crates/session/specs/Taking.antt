-- Taking in the record that a pass has made.
--   Taken       numbers and desk before, and after a new record was taken in by Brent's rule
--   LeadsTo     a run of the step f from the record x leads to these numbers and this desk
--   CountsOn    the numbers count the record that was taken in
use Rattle.std.specs.Prelude.{◌≡◌, ◌+◌, Bool, true, cond, Decides, Option}
use Rattle.record.specs.Lists.{Lists}
use Rattle.verdict.specs.Brent.{takes, advanced, at_anchor_lem}
use Rattle.verdict.specs.Runs.{Reached}
use Rattle.verdict.specs.declared.progress.Progress.{Progress}
use Rattle.session.specs.Desk.{Desk}

-- both comparisons are with the records before; the anchor's becomes the new one just where the anchor has moved to it
pub record Taken (new : Lists) (p : Progress) (d : Desk) (q : Progress) (e : Desk) : Type 0 where
  pub again : Bool
  pub back : Bool
  pub as_before : Decides again (new ≡ d.current)
  pub as_anchor : Decides back (new ≡ d.anchor)
  pub numbers : q ≡ advanced again back p
  pub current : e.current ≡ new
  pub anchor : e.anchor ≡ cond (at_anchor_lem q) new d.anchor

abbrev pub LeadsTo : (Lists → Option Lists) → Lists → Progress → Desk → Type 0
LeadsTo f x p d = Reached f x p d.current d.anchor

abbrev pub CountsOn : Type 0
CountsOn = (new : Lists) (p q : Progress) (d e : Desk) → takes p ≡ true → Taken new p d q e → q.passes ≡ p.passes + 1
