-- What a session says of its passes.
--   VerdictStep     the verdict that its numbers give; nothing changes
use Rattle.std.specs.Prelude.{◌≡◌}
use Rattle.verdict.specs.Brent.{verdict_of}
use Rattle.verdict.specs.declared.outcome.Verdict.{Verdict}
use Rattle.verdict.specs.declared.progress.Progress.{Progress}

abbrev pub VerdictStep : Progress → Verdict → Type 0
VerdictStep p r = r ≡ verdict_of p
