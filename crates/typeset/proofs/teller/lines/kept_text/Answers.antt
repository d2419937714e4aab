use Rattle.std.proofs.Common.{sym, subst}
use Rattle.manuscript.specs.Rules.{Kept}
use Rattle.manuscript.proofs.Completing.{accepted_kept}
use Rattle.typeset.proofs.teller.lines.kept_text.Goals as goal

pub returns : goal.returns
returns c =
    let bytes = c.text.ensures.bytes in
    record { value = bytes; kept = subst Kept (sym bytes) (accepted_kept c.args.manuscript.text.now c.args.manuscript.accepted) }
