use Rattle.std.proofs.Common.{◌≡◌, drop}
use Rattle.typeset.specs.Items.{items, titles}
use Rattle.typeset.specs.Script.{contents_acts}
use Rattle.typeset.specs.Tellers.{telling_to}
use Rattle.typeset.specs.Texts.{telling_shown}
use Rattle.typeset.specs.Walking.{entry_lines, titles_left}
use Rattle.typeset.proofs.Plays.{ToPlay}
use Rattle.typeset.proofs.teller.Teller.set_contents.Given as goal

-- left are the lines of the entries that were not yet taken, with the titles that the reader has not yet passed
abbrev pub invariant-loop-entry : goal.invariant-loop-entry
invariant-loop-entry g l =
    let t = l.initial.self.manuscript.text.now in
    let style = l.initial.self.telling.style in
    let sh = telling_shown l.initial.self.telling in
    ToPlay (telling_to g.C.Compositor.playing) l.initial.self
    (contents_acts sh l.asked (titles (items t)) (entry_lines style l.entry-items))
    l.self
    (contents_acts sh l.asked (titles_left t l.reader.place) (entry_lines style (drop l.entry-index l.entry-items)))
    × (l.reader.text.now ≡ t)
