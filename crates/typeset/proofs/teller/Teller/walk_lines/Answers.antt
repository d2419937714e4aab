use Rattle.std.proofs.Common.{◌≡◌, ◌≤◌, List, ◌∷◌, sym, refl, ap, ◌∙◌, subst, arith}
use Rattle.std.proofs.lemmas.Result.{err_from_is_err_and}
use Rattle.compose.specs.Acts.{number_of}
use Rattle.manuscript.specs.Rules.{lines_kept, headings}
use Rattle.numerals.specs.declared.counters.Counters.{Counters}
use Rattle.reader.specs.Left.{lines_left}
use Rattle.reader.specs.Lines.{SourceLine, lines}
use Rattle.reader.specs.Reading.{left, line_of}
use Rattle.typeset.specs.Items.{items_of, items, titles, line_item}
use Rattle.typeset.specs.Numbering.{before_any, number_after_lem}
use Rattle.typeset.specs.Script.{told, item_acts}
use Rattle.typeset.specs.Tellers.{telling_to}
use Rattle.typeset.specs.Texts.{telling_shown}
use Rattle.typeset.proofs.Plays.{none_played, played_on, refused_there, seen_from}
use Rattle.typeset.proofs.Walks.{line_first, first_kept, room_left}
use Rattle.typeset.proofs.teller.Teller.walk_lines.Goals as goal

pub loop-line-preserved : goal.loop-line-preserved
loop-line-preserved g c =
    let p = telling_to g.C.Compositor.playing in
    let me = c.args.self.now in
    let ts = titles (items me.manuscript.text.now) in
    let sh = telling_shown me.telling in
    let inv = c.loop-line.invariant in
    let l = line_of c.in-Some.line in
    let k = number_of c.loop-line.number in
    let k' = number_of c.in_ok-number.number in
    let walked = c.in_ok-number.ensures in
    let steps = c.in-Some.ensures.steps in
    let first : lines_left c.loop-line.line-iterator ≡ l ∷ lines_left c.next.new.self = steps.1.0 ∙ ap (λ r. l ∷ left r.now c.next.new.self.place) (sym steps.0) in
    let said = seen_from p me c.loop-line.self (λ f. item_acts (telling_shown f.1) (titles (items f.0.text.now)) (number_after_lem k (line_item l)) (line_item l)) inv.0.fixed walked.plays in (
      played_on p _ _ inv.0 (line_first sh ts k k' l first walked.number) said,
      (first_kept first inv.1).1,
      room_left l k k' first walked.number inv.2,
    )

pub returns-in_err-number : goal.returns-in_err-number
returns-in_err-number g c =
    let p = telling_to g.C.Compositor.playing in
    let me = c.args.self.now in
    let ts = titles (items me.manuscript.text.now) in
    let sh = telling_shown me.telling in
    let inv = c.loop-line.invariant in
    let l = line_of c.in-Some.line in
    let k = number_of c.loop-line.number in
    let steps = c.in-Some.ensures.steps in
    let first : lines_left c.loop-line.line-iterator ≡ l ∷ lines_left c.next.new.self = steps.1.0 ∙ ap (λ r. l ∷ left r.now c.next.new.self.place) (sym steps.0) in
    let said = seen_from p me c.loop-line.self (λ f. item_acts (telling_shown f.1) (titles (items f.0.text.now)) (number_after_lem k (line_item l)) (line_item l)) inv.0.fixed c.in_err-number.ensures.plays in
    let q = err_from_is_err_and c.from_residual.result c.from_residual.ensures.1 in
    rw (q.1, q.2) (refused_there p _ _ inv.0 (line_first sh ts k _ l first refl) said)
