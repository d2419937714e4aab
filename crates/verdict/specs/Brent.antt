-- Brent's rule: what is said of a run, and what a pass does to the numbers that it is said from.
--   numbers          a progress of these numbers
--   start            no pass yet; x(0) is the anchor
--   takes            whether another pass is taken in: open, and fewer than 255 passes
--   ruled            the progress that the pass after `passes` leads to, by the first of the four cases that holds
--   advanced         the same, or the progress as it is where it takes in no pass
--   at_anchor_lem    whether the current record is the anchor's
--   period_of        the period that is named
--   since_of         the pass that it is named from
--   said_of          all that is said, as numbers
--   verdict_of       the verdict, and `verdict_says` that these are its numbers
use Rattle.std.specs.Prelude.{◌≡◌, ℕ, ◌+◌, ◌-◌, ◌*◌, Bool, false, cond, ◌==◌, nat_lt, refl}
use Rattle.verdict.specs.Said.{Said, says, said}
use Rattle.verdict.specs.declared.outcome.Outcome.{Outcome}
use Rattle.verdict.specs.declared.outcome.Outcome.TheVariants.{Open, Settled, Oscillates}
use Rattle.verdict.specs.declared.outcome.Verdict.{Verdict}
use Rattle.verdict.specs.declared.outcome.Verdict.TheVariants.{Open as OpenAfter, Settled as SettledAfter, Oscillates as OscillatesAfter}
use Rattle.verdict.specs.declared.progress.Progress.{Progress}

abbrev pub numbers : ℕ → ℕ → ℕ → Outcome → Progress
numbers k a w o = record { passes = k; anchor = a; power = w; outcome = o }

abbrev pub start : Progress
start = numbers 0 0 1 Open

abbrev room : Outcome → ℕ → Bool
room Open k = nat_lt k 255
room Settled k = false
room Oscillates k = false

abbrev pub takes : Progress → Bool
takes p = room p.outcome p.passes

-- again: x(k) = x(k − 1); back: x(k) = x(a)
abbrev pub ruled : Bool → Bool → ℕ → ℕ → ℕ → Progress
ruled again back k a w = cond again (numbers k a w Settled) (cond back (numbers k a w Oscillates) (cond (k - a == w) (numbers k k (w * 2) Open) (numbers k a w Open)))

abbrev pub advanced : Bool → Bool → Progress → Progress
advanced again back p = cond (takes p) (ruled again back (p.passes + 1) p.anchor p.power) p

abbrev pub at_anchor_lem : Progress → Bool
at_anchor_lem p = p.passes == p.anchor

abbrev pub period_of : Outcome → ℕ → ℕ → ℕ
period_of Open k a = 0
period_of Settled k a = 1
period_of Oscillates k a = k - a

abbrev pub since_of : Outcome → ℕ → ℕ → ℕ
since_of Open k a = 0
since_of Settled k a = k - 1
since_of Oscillates k a = a

abbrev pub said_of : Progress → Said
said_of p = says p.outcome p.passes (period_of p.outcome p.passes p.anchor) (since_of p.outcome p.passes p.anchor)

abbrev judged : Outcome → ℕ → ℕ → Verdict
judged Open k a = OpenAfter k
judged Settled k a = SettledAfter k (k - 1)
judged Oscillates k a = OscillatesAfter k (k - a) a

abbrev pub verdict_of : Progress → Verdict
verdict_of p = judged p.outcome p.passes p.anchor

judged_says : (o : Outcome) (k a : ℕ) → said (judged o k a) ≡ says o k (period_of o k a) (since_of o k a)
judged_says Open k a = refl
judged_says Settled k a = refl
judged_says Oscillates k a = refl

pub verdict_says : (p : Progress) → said (verdict_of p) ≡ said_of p
verdict_says p = judged_says p.outcome p.passes p.anchor
