use Rattle.std.proofs.Common.{◌≡◌}
use Rattle.reader.specs.Left.{words_left}
use Rattle.reader.specs.Reading.{line_of}
use Rattle.manuscript.specs.Standing.{word_marks, line_marks, is_title, dangling}
use Rattle.manuscript.specs.Values.{held}
use Rattle.manuscript.proofs.labels.Labels.meet_line.Given as goal

abbrev pub invariant-loop-word : goal.invariant-loop-word
invariant-loop-word l =
    (dangling (held l.self) (word_marks (is_title l.line.bytes.now) (line_of l.line) (words_left l.word-iterator)) ≡ dangling (held l.self) (line_marks (line_of l.line)))
    × (l.word-iterator.line ≡ l.line)
