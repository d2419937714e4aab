use Rattle.std.proofs.Common.{◌≡◌, ◌*◌, length, take}
use Rattle.recordlines.specs.Hex.{hex}
use Rattle.recordlines.proofs.writes.line_of.Given as goal

-- the digits of the bytes so far
abbrev pub invariant-loop-byte : goal.invariant-loop-byte
invariant-loop-byte l = record {
  digits : l.line.items ≡ hex (take l.byte-index l.byte-items);
  count : length l.line.items ≡ 2 * l.byte-index;
}
