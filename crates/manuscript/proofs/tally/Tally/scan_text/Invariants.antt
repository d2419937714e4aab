use Rattle.std.proofs.Common.{◌≡◌, ◌+◌, length}
use Rattle.reader.specs.Left.{lines_left}
use Rattle.reader.specs.Lines.{lines}
use Rattle.manuscript.specs.Scanning.{scan_lines}
use Rattle.manuscript.specs.Values.{seen}
use Rattle.manuscript.proofs.tally.Tally.scan_text.Given as goal

abbrev pub invariant-loop-line : goal.invariant-loop-line
invariant-loop-line l =
    (scan_lines (lines_left l.line-iterator) (seen l.self) ≡ scan_lines (lines l.text) (seen l.initial.self))
    × (l.count + length (lines_left l.line-iterator) ≡ length (lines l.text))
    × (l.count ≡ l.line-iterator.place.lines)
