use Rattle.std.proofs.Common.{◌≡◌, ◌+◌, rules}
use Rattle.reader.proofs.Laws.{first_number}
use Rattle.manuscript.proofs.tally.Tally.scan_text.Goals as goal

pub loop-line-preserved : goal.loop-line-preserved
loop-line-preserved c =
    let here : c.in-Some.line.number ≡ c.loop-line.line-iterator.place.lines + 1 = first_number _ _ _ _ _ c.in-Some.ensures.steps.1.0 in
    search rules
