use Rattle.std.proofs.Common.{◌≡◌, ℕ, ◌+◌, ◌≤◌, ◌++◌, List, length, take, sym, ap, ◌∙◌, arith}
use Rattle.std.specs.List.{flat_map}
use Rattle.std.proofs.lemmas.List.Folds.{length-flat_map-take}
use Rattle.buffers.specs.Written.{written}
use Rattle.buffers.proofs.Writing.{then_written}
use Rattle.recordlines.specs.Frame.{line}
use Rattle.recordlines.proofs.Joining.{flat_map_more}
use Rattle.recordlines.proofs.saves.write_lines.Goals as goal

pub write-end-requires : goal.write-end-requires
write-end-requires g c =
    let f : g.row.E.Denot → List ℕ = λ e. line (g.E.Framed.frame e) in
    let x = c.entry-item.result in
    let piece : c.deref.result.now ≡ f x = c.deref.ensures.0 ∙ c.line_of.ensures ∙ ap line c.frame.ensures in
    let room = length-flat_map-take f c.args.entries.now c.loop-entry.entry-index x c.loop-entry-test.true in
    omega (arith, ap length piece, room, ap (λ y. length (f y)) c.entry-item.is, c.loop-entry.invariant.end, c.loop-entry.auto.out, c.requires)

pub loop-entry-preserved : goal.loop-entry-preserved
loop-entry-preserved g c =
    let f : g.row.E.Denot → List ℕ = λ e. line (g.E.Framed.frame e) in
    let xs = c.args.entries.now in
    let i = c.loop-entry.entry-index in
    let x = c.entry-item.result in
    let out = c.args.out.now in
    let at = c.args.at in
    let done : List ℕ = flat_map f (take i xs) in
    let piece : c.deref.result.now ≡ f x = c.deref.ensures.0 ∙ c.line_of.ensures ∙ ap line c.frame.ensures in
    let room : at + length done ≤ length out = omega (arith, length-flat_map-take f xs i x c.loop-entry-test.true, c.requires) in
    let w = then_written out at done c.deref.result.now room c.loop-entry.invariant.end c.loop-entry.invariant.after c.write-end.ensures.end c.write-end.ensures.after in
    let more : done ++ c.deref.result.now ≡ flat_map f (take (i + 1) xs) = ap (λ l. done ++ l) piece ∙ sym (flat_map_more f xs i x c.loop-entry-test.true c.entry-item.is) in
    record { end = w.0 ∙ ap (λ l. at + length l) more; after = w.1 ∙ ap (written out at) more }
