use Rattle.std.proofs.Common.{sym, ◌∙◌}
use Rattle.std.proofs.lemmas.Bool.{true≢false}
use Rattle.typeset.proofs.Lookups.{right_name}
use Rattle.typeset.proofs.roles.mark_name.Goals as goal

pub unreachable-requires : goal.unreachable-requires
unreachable-requires c = true≢false (sym (right_name c.args.marked.name.now c.args.marked.right) ∙ c.in-None.ensures)
