use Rattle.std.proofs.Common.{sym, ap, ◌∙◌}
use Rattle.std.proofs.lemmas.Bool.{true≢false}
use Rattle.numerals.specs.Sound.{number_ok}
use Rattle.numerals.specs.declared.counters.Counters.{Counters}
use Rattle.typeset.proofs.Numbers.{risen_ok}
use Rattle.typeset.proofs.numbering.next_number.Goals as goal

pub unreachable-requires : goal.unreachable-requires
unreachable-requires c =
    let d = c.args.level in
    true≢false (sym (risen_ok d c.args.number.counters c.requires.le_level.0 c.requires.le_level.1 c.requires.room) ∙ ap (λ (cs : Counters). number_ok d cs) (sym c.risen_counters.ensures) ∙ c.in-None.ensures)
