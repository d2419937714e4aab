use Rattle.std.proofs.Common.{◌≡◌, ◌+◌, length, take}
use Rattle.std.specs.List.{flat_map}
use Rattle.buffers.specs.Written.{written}
use Rattle.recordlines.specs.Frame.{line}
use Rattle.recordlines.proofs.saves.write_lines.Given as goal

-- the lines so far
abbrev pub invariant-loop-entry : goal.invariant-loop-entry
invariant-loop-entry g l = record {
  end : l.end ≡ l.at + length (flat_map (λ e. line (g.E.Framed.frame e)) (take l.entry-index l.entries));
  after : l.out ≡ written l.initial.out l.at (flat_map (λ e. line (g.E.Framed.frame e)) (take l.entry-index l.entries));
}
