use Rattle.std.proofs.Common.{ℕ, List, length, ap, ◌∙◌, arith, length-append}
use Rattle.recordlines.specs.Frame.{line}
use Rattle.recordlines.proofs.Joining.{flat_map_more, length_line}
use Rattle.recordlines.proofs.saves.lines_length.Goals as goal

pub loop-entry-preserved : goal.loop-entry-preserved
loop-entry-preserved g c =
    let f : g.row.E.Denot → List ℕ = λ e. line (g.E.Framed.frame e) in
    let x = c.entry-item.result in
    let more = ap length (flat_map_more f c.args.entries.now c.loop-entry.entry-index x c.loop-entry-test.true c.entry-item.is) ∙ length-append _ (f x) in
    record {
      value = omega (arith, more, c.loop-entry.invariant.value, length_line (g.E.Framed.frame x), c.frame_length.ensures.value);
      bound = omega (arith, c.loop-entry.invariant.bound, c.frame_length.ensures.bound);
    }
