-- What every refusal of a layout is in answers and in faults.
--   refusal_number   14 for a word that is too wide, 15 after the last page
--   cause_of         the cause of a fault that it makes
use Rattle.std.specs.Prelude.{ℕ}
use Rattle.faults.specs.declared.cause.Cause.{Cause}
use Rattle.faults.specs.declared.cause.Cause.TheVariants as causes
use Rattle.layout.specs.declared.refusal.Refusal.{Refusal}
use Rattle.layout.specs.declared.refusal.Refusal.TheVariants.{WordTooWide, PagesUsedUp}

abbrev pub refusal_number : Refusal → ℕ
refusal_number WordTooWide = 14
refusal_number PagesUsedUp = 15

abbrev pub cause_of : Refusal → Cause
cause_of WordTooWide = causes.WordTooWide
cause_of PagesUsedUp = causes.PagesUsedUp
