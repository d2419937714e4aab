-- What a verdict says, as numbers.
--   Said          the kind, the passes, the period that is named, and the pass that it is named from
--   said          the numbers of a verdict: while open no period is named, and settled names a period of one
--   kind_number   the number of a kind
use Rattle.std.specs.Prelude.{ℕ}
use Rattle.verdict.specs.declared.outcome.Outcome.{Outcome}
use Rattle.verdict.specs.declared.outcome.Outcome.TheVariants.{Open, Settled, Oscillates}
use Rattle.verdict.specs.declared.outcome.Verdict.{Verdict}
use Rattle.verdict.specs.declared.outcome.Verdict.TheVariants.{Open as OpenAfter, Settled as SettledAfter, Oscillates as OscillatesAfter}

pub record Said : Type 0 where
  pub kind : Outcome
  pub passes : ℕ
  pub period : ℕ
  pub since : ℕ

abbrev pub says : Outcome → ℕ → ℕ → ℕ → Said
says o k q b = record { kind = o; passes = k; period = q; since = b }

abbrev pub said : Verdict → Said
said (OpenAfter k) = says Open k 0 0
said (SettledAfter k b) = says Settled k 1 b
said (OscillatesAfter k q b) = says Oscillates k q b

abbrev pub kind_number : Outcome → ℕ
kind_number Open = 0
kind_number Settled = 1
kind_number Oscillates = 2
