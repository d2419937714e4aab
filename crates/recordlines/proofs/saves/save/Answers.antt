use Rattle.record.specs.Records.{record_lists}
use Rattle.record.proofs.Facts.{labels_ok, contents_ok, few_labels, few_contents}
use Rattle.recordlines.proofs.Redo.{loads_again_lem}
use Rattle.recordlines.proofs.saves.save.Goals as goal

pub returns-clause-loads : goal.returns-clause-loads
returns-clause-loads c =
    let r = c.args.saved.now in
    let t = r.table in
    loads_again_lem (record_lists r) (labels_ok t.labels.list.items) (contents_ok t.contents.list.items) r.apart (few_labels t) (few_contents t)
