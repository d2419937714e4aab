use Rattle.std.proofs.Common.{◌≡◌, ◌*◌, length, drop}
use Rattle.recordlines.specs.Hex.{after, bytes_of}
use Rattle.recordlines.proofs.decode.decode.Given as goal

-- the bytes so far and those that are left are all
abbrev pub invariant-loop-high : goal.invariant-loop-high
invariant-loop-high l = record {
  all : after l.frame.items (bytes_of (drop (l.high-index * 2) l.digits)) ≡ bytes_of l.digits;
  count : length l.frame.items ≡ l.high-index;
}
