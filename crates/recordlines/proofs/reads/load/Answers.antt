use Rattle.std.proofs.Common.{length, sym, ap, ◌∙◌, arith, rules}
use Rattle.std.proofs.lemmas.Grind.{common_steps}
use Rattle.std.proofs.lemmas.Bool.{eqb-false}
use Rattle.faults.specs.Faults.{in_line_lem}
use Rattle.faults.specs.declared.cause.Cause.TheVariants.{FrameMalformed}
use Rattle.record.specs.Records.{record_lists}
use Rattle.recordlines.specs.Load.{refused}
use Rattle.recordlines.proofs.Splitting.{end_read, not_closed}
use Rattle.recordlines.proofs.Stepping.{ended}
use Rattle.recordlines.proofs.Undo.{saves_again}
use Rattle.recordlines.proofs.reads.load.Goals.{in-Some+in_ok-told+in-End+else-is_empty, in_default}
use Rattle.recordlines.proofs.reads.load.Goals as goal

pub returns-then-is_empty-clause-saves : goal.returns-then-is_empty-clause-saves
returns-then-is_empty-clause-saves c = saves_again c.args.bytes.now (record_lists c.take_line.new.entries) (grind (arith, common_steps))

pub returns-clause-value : goal.returns-clause-value
returns-clause-value c =
    let ls = record_lists c.loop-line.entries in
    let n = c.loop-line.lines.number in
    let told = ap refused (sym c.in_line.ensures) in
    elim c.match-next.branch [
      | in-Some+in_ok-told+in-End+else-is_empty w ↦ (
          let rest = c.next.new.self.rest.now in
          let end = ended _ w.take_line.result w.map_err.result w.in_ok-told.told _ _ _ w.map_err.ensures.cases w.map_err.ensures.variant w.in_ok-told.was w.in-End.is w.take_line.ensures in
          let some = eqb-false (length rest) 0 (sym w.is_empty.ensures ∙ w.if-is_empty.false) in
          sym c.loop-line.invariant ∙ end_read ls n w.in-Some.line.digits.now c.loop-line.lines.rest.now rest w.in-Some.ensures.steps.0 end.0 ∙ not_closed ls n rest some
          ∙ ap (λ k. refused (in_line_lem FrameMalformed k)) (sym w.in-Some.ensures.steps.2) ∙ told)
      | in_default w ↦ search rules
    ]
