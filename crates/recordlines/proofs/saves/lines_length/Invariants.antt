use Rattle.std.proofs.Common.{◌≡◌, ◌*◌, ◌≤◌, length, take}
use Rattle.std.specs.List.{flat_map}
use Rattle.recordlines.specs.Frame.{line}
use Rattle.recordlines.proofs.saves.lines_length.Given as goal

-- the lines so far
abbrev pub invariant-loop-entry : goal.invariant-loop-entry
invariant-loop-entry g l = record {
  value : l.total ≡ length (flat_map (λ e. line (g.E.Framed.frame e)) (take l.entry-index l.entries));
  bound : l.total ≤ 49 * l.entry-index;
}
