use Rattle.std.proofs.Common.{◌≡◌, true}
use Rattle.compose.specs.Acts.{number_of}
use Rattle.manuscript.specs.Rules.{lines_kept, headings}
use Rattle.reader.specs.Left.{lines_left}
use Rattle.record.specs.Lists.{lists_of}
use Rattle.typeset.specs.Items.{items_of, items, titles}
use Rattle.typeset.specs.Numbering.{Room}
use Rattle.typeset.specs.Script.{told, script}
use Rattle.typeset.specs.Tellers.{telling_to}
use Rattle.typeset.specs.Texts.{telling_shown}
use Rattle.typeset.proofs.Plays.{ToPlay}
use Rattle.typeset.proofs.teller.Teller.walk_lines.Given as goal

-- left are the items of the lines that were not yet read, which keep the rules; no counter can pass 128
abbrev pub invariant-loop-line : goal.invariant-loop-line
invariant-loop-line g l =
    let teller = l.initial.self in
    let book = items teller.manuscript.text.now in
    ToPlay (telling_to g.C.Compositor.playing) teller
    (script teller.telling.style (lists_of teller.telling.old.now) book)
    l.self
    (told (telling_shown teller.telling) (titles book) (number_of l.number) (items_of (lines_left l.line-iterator)))
    × (lines_kept (lines_left l.line-iterator) ≡ true)
    × Room l.number.counters (headings (lines_left l.line-iterator))
