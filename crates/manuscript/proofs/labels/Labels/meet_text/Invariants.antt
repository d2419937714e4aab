use Rattle.std.proofs.Common.{◌≡◌}
use Rattle.reader.specs.Left.{lines_left}
use Rattle.manuscript.specs.Standing.{text_marks, marks, dangling}
use Rattle.manuscript.specs.Values.{held}
use Rattle.manuscript.proofs.labels.Labels.meet_text.Given as goal

abbrev pub invariant-loop-line : goal.invariant-loop-line
invariant-loop-line l = dangling (held l.self) (text_marks (lines_left l.line-iterator)) ≡ dangling (held l.self) (marks l.text)
