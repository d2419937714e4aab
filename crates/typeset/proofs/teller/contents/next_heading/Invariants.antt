use Rattle.std.proofs.Common.{◌≡◌, length}
use Rattle.reader.specs.Reading.{left}
use Rattle.typeset.specs.Walking.{titles_left}
use Rattle.typeset.proofs.teller.contents.next_heading.Given as goal

-- no title was passed
abbrev pub invariant-loop-line : goal.invariant-loop-line
invariant-loop-line l =
    (titles_left l.initial.reader.text.now l.reader.place ≡ titles_left l.initial.reader.text.now l.initial.reader.place)
    × (l.reader.text ≡ l.initial.reader.text)

abbrev pub decreases-loop-line : goal.decreases-loop-line
decreases-loop-line l = length (left l.reader.text.now l.reader.place)
