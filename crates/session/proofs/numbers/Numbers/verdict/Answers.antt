use Rattle.std.proofs.Common.{sym, subst}
use Rattle.record.specs.Lists.{Lists}
use Rattle.verdict.proofs.Verdicts.{always_right_lem}
use Rattle.verdict.specs.Runs.{AlwaysRight}
use Rattle.verdict.specs.declared.outcome.Verdict.{Verdict}
use Rattle.session.proofs.numbers.Numbers.verdict.Goals as goal

pub returns-clause-right : goal.returns-clause-right
returns-clause-right c =
    let p = c.args.self.progress in
    subst (λ (v : Verdict). AlwaysRight Lists p v) (sym c.verdict.ensures.value) (always_right_lem Lists p)
