use Rattle.std.proofs.Common.{ℕ, List, map, Some, ap, ◌∙◌, subst}
use Rattle.std.proofs.lemmas.Result.{err_from_is_err_and}
use Rattle.reader.specs.Reading.{line_of}
use Rattle.record.specs.Meaning.{position_of}
use Rattle.typeset.specs.Items.{items, titles, title_words}
use Rattle.typeset.specs.Script.{contents_acts, entry_acts}
use Rattle.typeset.specs.Shown.{contents_line}
use Rattle.typeset.specs.Tellers.{telling_to}
use Rattle.typeset.specs.Texts.{telling_shown}
use Rattle.typeset.specs.Walking.{NextHeading}
use Rattle.typeset.proofs.Plays.{played_on, refused_there, all_played, seen_from, plays_same}
use Rattle.typeset.proofs.Walks.{entry_first, no_entry_left}
use Rattle.typeset.proofs.teller.Teller.set_contents.Goals as goal

pub returns-in_err-set_entry : goal.returns-in_err-set_entry
returns-in_err-set_entry g c =
    let p = telling_to g.C.Compositor.playing in
    let me = c.args.self.now in
    let sh = telling_shown me.telling in
    let es = c.contents-entry-items.result.now in
    let e = c.entry-item.result in
    let l = line_of c.in-Some.heading in
    let inv = c.loop-entry.invariant in
    let next = subst (λ (s : List ℕ). NextHeading s c.loop-entry.reader.place (Some c.in-Some.heading) c.next_heading.new.reader.place) inv.1 c.in-Some.ensures.next in
    let said = seen_from p me c.loop-entry.self (λ f. entry_acts (telling_shown f.1) c.args.asked (title_words l) (contents_line f.1.style (position_of e))) inv.0.fixed c.in_err-set_entry.ensures in
    let whole = refused_there p _ _ inv.0 (entry_first sh c.args.asked me.telling.style es c.loop-entry.entry-index e (title_words l) c.loop-entry-test.true c.entry-item.is next.0) said in
    let q = err_from_is_err_and c.from_residual.result c.from_residual.ensures.1 in
    rw (q.1, q.2) (plays_same p me c.set_entry.new.self (ap (λ v. contents_acts sh c.args.asked (titles (items me.manuscript.text.now)) (map (contents_line me.telling.style) v)) c.contents-entry-items.ensures.value) whole)

pub loop-entry-preserved : goal.loop-entry-preserved
loop-entry-preserved g c =
    let p = telling_to g.C.Compositor.playing in
    let me = c.args.self.now in
    let sh = telling_shown me.telling in
    let e = c.entry-item.result in
    let l = line_of c.in-Some.heading in
    let inv = c.loop-entry.invariant in
    let next = subst (λ (s : List ℕ). NextHeading s c.loop-entry.reader.place (Some c.in-Some.heading) c.next_heading.new.reader.place) inv.1 c.in-Some.ensures.next in
    let said = seen_from p me c.loop-entry.self (λ f. entry_acts (telling_shown f.1) c.args.asked (title_words l) (contents_line f.1.style (position_of e))) inv.0.fixed c.in_ok-set_entry.ensures in (
      played_on p _ _ inv.0 (entry_first sh c.args.asked me.telling.style c.contents-entry-items.result.now c.loop-entry.entry-index e (title_words l) c.loop-entry-test.true c.entry-item.is next.0) said,
      ap (λ r. r.now) c.next_heading.ensures.text ∙ inv.1,
    )

pub returns : goal.returns
returns g c =
    let p = telling_to g.C.Compositor.playing in
    let me = c.args.self.now in
    let sh = telling_shown me.telling in
    let inv = c.loop-entry.invariant in
    let whole = all_played p inv.0 (no_entry_left sh c.args.asked me.telling.style c.contents-entry-items.result.now c.loop-entry.entry-index _ c.loop-entry-test.false) in
    plays_same p me c.loop-entry.self (ap (λ v. contents_acts sh c.args.asked (titles (items me.manuscript.text.now)) (map (contents_line me.telling.style) v)) c.contents-entry-items.ensures.value) whole
