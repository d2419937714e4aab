use Rattle.std.proofs.Common.{length, ap, arith}
use Rattle.record.specs.Meaning.{label_of, position_of}
use Rattle.record.specs.Lists.{lists_of}
use Rattle.recordlines.proofs.Joining.{labels_text, contents_text, lines_length_lem}
use Rattle.recordlines.proofs.saves.entries_length.Goals as goal

pub returns-clause-value : goal.returns-clause-value
returns-clause-value c =
    let ls = lists_of c.args.table.now in
    let l = ap length (labels_text ls label_of c.labels.result.now c.labels.ensures.value) in
    let k = ap length (contents_text ls position_of c.contents.result.now c.contents.ensures.value) in
    omega (arith, l, k, lines_length_lem ls, c.lines_length.ensures.value, c.lines_length-2.ensures.value)
