use Rattle.std.proofs.Common.{refl, arith}
use Rattle.recordlines.proofs.Splitting.{no_newline, next_line_lem}
use Rattle.recordlines.proofs.lines.LinesIterator.next.Goals as goal

pub returns-then-end-rest-clause-steps : goal.returns-then-end-rest-clause-steps
returns-then-end-rest-clause-steps c = (no_newline _ _ c.run_length-end.ensures.value (omega (arith, c.if-end-rest.true)), refl)

pub returns-clause-steps : goal.returns-clause-steps
returns-clause-steps c =
    let split = next_line_lem c.args.self.now.rest.now _ c.run_length-end.ensures.value (omega (arith, c.if-end-rest.false, c.run_length-end.ensures.bound)) in
    (split.0, refl, refl, split.1)
