use Rattle.std.proofs.Common.{◌∷◌, ◌++◌, ap, ◌∙◌}
use Rattle.numerals.specs.Numeral.{decimal}
use Rattle.numerals.proofs.Lengths.{text_one, text_two}
use Rattle.numerals.proofs.heading.HeadingNumber.text.Goals.{then-self-ge2, else-self-ge2}
use Rattle.numerals.proofs.heading.HeadingNumber.text.Goals as goal

pub returns-else-self-eq3 : goal.returns-else-self-eq3
returns-else-self-eq3 c =
    let self = c.args.self in
    let first = c.push_decimal.ensures ∙ ap (λ l. l ++ decimal self.counters.first) c.new-text.ensures in
    elim c.if-self-ge2.branch [
      | then-self-ge2 w ↦ ap (λ t. t.items) w.text-is ∙ w.push_next.ensures ∙ ap (λ l. l ++ (46 ∷ decimal self.counters.second)) first ∙ text_two self.level self.counters self.sound w.if-self-ge2.true c.if-self-eq3.false
      | else-self-ge2 w ↦ ap (λ t. t.items) w.text-is ∙ first ∙ text_one self.level self.counters self.sound w.if-self-ge2.false
    ]
