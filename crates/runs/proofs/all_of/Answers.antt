use Rattle.std.proofs.Common.{◌∙◌, rules, tests}
use Rattle.std.proofs.lemmas.Iterator.{YieldsList-from_slice}
use Rattle.std.proofs.lemmas.Iterator.Search.{all_from_yields_List}
use Rattle.runs.proofs.Fronts.{list_all_front}
use Rattle.runs.proofs.all_of.Goals as goal

pub returns : goal.returns
returns g c =
    let bytes = c.args.bytes.now in
    let test = g.C.Class.test in
    all_from_yields_List test _ _ _ c.all.ensures.ran (YieldsList-from_slice bytes cc) (λ x b q k. search (rules, tests)) ∙ list_all_front test bytes
