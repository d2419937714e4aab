use Rattle.record.specs.Lists.{lists_of}
use Rattle.record.proofs.Facts.{labels_ok, contents_ok, few_labels, few_contents}
use Rattle.recordlines.proofs.Redo.{loads_again_lem}
use Rattle.session.proofs.numbers.Numbers.save.Goals as goal

pub returns-clause-loads : goal.returns-clause-loads
returns-clause-loads c =
    let w = c.args.workspace.now in
    let t = w.current in
    loads_again_lem (lists_of t) (labels_ok t.labels.list.items) (contents_ok t.contents.list.items) w.apart.0 (few_labels t) (few_contents t)
