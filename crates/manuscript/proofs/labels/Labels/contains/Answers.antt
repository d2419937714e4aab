use Rattle.std.proofs.Common.{◌∙◌, rules, tests}
use Rattle.std.specs.Str.{bytes_eq}
use Rattle.std.proofs.lemmas.Iterator.{YieldsList-from_slice}
use Rattle.std.proofs.lemmas.Iterator.Search.{any_from_yields_List}
use Rattle.manuscript.proofs.Tables.{list_any_among}
use Rattle.manuscript.proofs.labels.Labels.contains.Goals as goal

pub returns : goal.returns
returns c =
    let names = c.args.self.now.names.items in
    let name = c.args.name.now in
    any_from_yields_List (λ r. bytes_eq r.now name) _ _ _ c.any.ensures.ran (YieldsList-from_slice names cc) (λ x b q k. search (rules, tests)) ∙ list_any_among name names
