-- What opening a session answers and leaves.
--   Allowed      the letter is that of a style, and the limit is 1 to 255
--   Opened       a session of these settings, from the start
--   OpenStep     where the settings are allowed, a session from the start, and both records are the starting one; else nothing changes
--   LeadsOff     every run from the starting record leads to what opening leaves
use Rattle.std.specs.Prelude.{◌≡◌, ℕ, ◌≤◌, IfOk, Ok, Err, Option, Result}
use Rattle.faults.specs.declared.cause.Cause.TheVariants.{SessionSettings}
use Rattle.faults.specs.declared.fault.Fault.{Fault}
use Rattle.numerals.specs.Numeral.{style_letter}
use Rattle.numerals.specs.declared.style.NumeralStyle.{NumeralStyle}
use Rattle.record.specs.Lists.{Lists}
use Rattle.verdict.specs.Brent.{start}
use Rattle.session.specs.Desk.{Desk, both}
use Rattle.session.specs.Faulting.{at_pass_lem}
use Rattle.session.specs.Taking.{LeadsTo}
use Rattle.session.specs.declared.numbers.Numbers.{Numbers}
use Rattle.session.specs.declared.sessions.Passing.{Passing}

pub record Allowed (letter limit : ℕ) : Type 0 where
  pub styled : (s : NumeralStyle) × (style_letter s ≡ letter)
  pub some : 1 ≤ limit
  pub most : limit ≤ 255

pub record Opened (letter most : ℕ) (s : Numbers) : Type 0 where
  pub style : style_letter s.style ≡ letter
  pub limit : s.limit ≡ most
  pub progress : s.progress ≡ start

abbrev pub OpenStep : ℕ → ℕ → Lists → Desk → Result Passing Fault → Desk → Type 0
OpenStep letter limit x d (Ok s) e = Allowed letter limit × Opened letter limit s.numbers × (e ≡ both x)
OpenStep letter limit x d (Err f) e = (Allowed letter limit → ⊥) × (f ≡ at_pass_lem SessionSettings 0) × (e ≡ d)

abbrev pub LeadsOff : Type 0
LeadsOff =
    (letter limit : ℕ) (x : Lists) (d e : Desk) (r : Result Passing Fault) → OpenStep letter limit x d r e →
    IfOk r (λ s. (f : Lists → Option Lists) → LeadsTo f x s.numbers.progress e)
