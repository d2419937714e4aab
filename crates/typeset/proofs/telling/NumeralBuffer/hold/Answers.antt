use Rattle.std.proofs.Common.{◌++◌, length, take, sym, ap, ◌∙◌, append_assoc, zero-add, arith, take_at}
use Rattle.buffers.proofs.Writing.{then_written}
use Rattle.typeset.proofs.telling.NumeralBuffer.hold.Goals as goal

pub returns-clause-text : goal.returns-clause-text
returns-clause-text c =
    let o = c.args.self.now.bytes in
    let a = c.args.before.now in
    let m = c.args.middle.now in
    let z = c.args.after.now in
    let two = then_written o 0 a m (omega (arith, c.requires, c.args.self.now.long)) c.write-end.ensures.end c.write-end.ensures.after c.write-end-2.ensures.end c.write-end-2.ensures.after in
    let three = then_written o 0 (a ++ m) z (omega (arith, c.requires, c.args.self.now.long, two.0)) two.0 two.1 c.write.ensures.end c.write.ensures.after in
    let whole = (a ++ m) ++ z in
    ap (take c.write.result) three.1 ∙ take_at whole _ c.write.result (sym (three.0 ∙ zero-add (length whole))) ∙ append_assoc a m z
