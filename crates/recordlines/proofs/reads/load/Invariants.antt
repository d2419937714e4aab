use Rattle.std.proofs.Common.{◌≡◌, length}
use Rattle.record.specs.Records.{record_lists}
use Rattle.recordlines.specs.Load.{split, read, loaded}
use Rattle.recordlines.proofs.reads.load.Given as goal

-- reading what is left gives the result
abbrev pub invariant-loop-line : goal.invariant-loop-line
invariant-loop-line l = read (record_lists l.entries) l.lines.number (split l.lines.rest.now).whole (split l.lines.rest.now).rest ≡ loaded l.bytes

abbrev pub decreases-loop-line : goal.decreases-loop-line
decreases-loop-line l = length l.lines.rest.now
