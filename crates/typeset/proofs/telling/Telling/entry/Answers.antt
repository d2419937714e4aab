use Rattle.std.proofs.Common.{◌≡◌, List, length, Some, sym, ap, ◌∙◌, arith, subst}
use Rattle.record.specs.Meaning.{label_of}
use Rattle.record.specs.Positions.{Label}
use Rattle.typeset.specs.Shown.{position_at, looked_up}
use Rattle.std.proofs.lemmas.List.{length-map}
use Rattle.typeset.proofs.Lookups.{position_there}
use Rattle.typeset.proofs.telling.Telling.entry.Goals as goal

pub returns : goal.returns
returns c =
    let labels = c.labels.result.now in
    let h = sym (length-map labels label_of) ∙ ap length c.labels.ensures.value in
    let there = subst (λ (ls : List Label). position_at ls c.in_ok-place.place ≡ Some (label_of c.index-labels-place.result).position) c.labels.ensures.value (position_there labels c.in_ok-place.place c.index-labels-place.result (omega (arith, h, c.in_ok-place.ensures.bound)) c.index-labels-place.is) in
    sym there ∙ ap (looked_up _) c.in_ok-place.ensures.value
