use Rattle.std.proofs.Common.{arith}
use Rattle.record.proofs.Padding.{name_length}
use Rattle.record.proofs.name.makes.padded.Goals as goal

pub write-end-requires : goal.write-end-requires
write-end-requires c = omega (arith, (name_length c.args.text.now c.requires).1)
