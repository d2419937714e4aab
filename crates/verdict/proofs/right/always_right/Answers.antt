use Rattle.verdict.proofs.Verdicts.{always_right_lem}
use Rattle.verdict.proofs.right.always_right.Goals as goal

pub returns : goal.returns
returns g c = always_right_lem _
