use Rattle.std.proofs.Common.{◌≡◌}
use Rattle.reader.specs.Kinds.{line_words}
use Rattle.reader.specs.Left.{words_left}
use Rattle.reader.specs.Reading.{line_of}
use Rattle.manuscript.specs.Scanning.{scan_words}
use Rattle.manuscript.specs.Standing.{is_title}
use Rattle.manuscript.specs.Values.{seen}
use Rattle.manuscript.proofs.tally.Tally.note_words.Given as goal

abbrev pub invariant-loop-word : goal.invariant-loop-word
invariant-loop-word l =
    (scan_words (is_title l.line.bytes.now) (line_of l.line) (words_left l.word-iterator) (seen l.self) ≡ scan_words (is_title l.line.bytes.now) (line_of l.line) (line_words l.line.bytes.now) (seen l.initial.self))
    × (l.word-iterator.line ≡ l.line)
