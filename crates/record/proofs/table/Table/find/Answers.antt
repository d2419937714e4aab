use Rattle.std.proofs.Common.{◌∙◌, tests, rules}
use Rattle.std.proofs.lemmas.Iterator.{YieldsList-from_slice}
use Rattle.std.proofs.lemmas.Iterator.Search.{position_from_yields_List}
use Rattle.record.proofs.Places.{named, place}
use Rattle.record.proofs.table.Table.find.Goals as goal

pub returns-clause-value : goal.returns-clause-value
returns-clause-value c =
    let name = c.args.name.now in
    position_from_yields_List (named name) _ _ _ c.position.ensures.ran (YieldsList-from_slice c.args.self.now.labels.list.items cc) (λ x b q k. search (rules, tests))
    ∙ place name c.args.self.now.labels.list.items
