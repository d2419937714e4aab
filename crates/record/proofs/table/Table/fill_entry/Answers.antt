use Rattle.std.proofs.Common.{◌<◌, length, refl, arith}
use Rattle.std.proofs.lemmas.List.{length-map}
use Rattle.record.specs.Meaning.{label_of}
use Rattle.record.proofs.Filling.{filled}
use Rattle.record.proofs.Whole.{lists_same}
use Rattle.record.proofs.table.Table.fill_entry.Goals as goal

pub returns : goal.returns
returns c =
    let items = c.args.self.now.labels.list.items in
    let within : c.args.i < length items = omega (arith, length-map items label_of) in
    lists_same _ _ (filled items c.args.i c.entry-entry.result.now _ within c.entry-entry.ensures.facts refl) refl
