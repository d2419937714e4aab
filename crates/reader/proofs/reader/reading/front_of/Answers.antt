use Rattle.reader.proofs.Rejoining.{lines_law}
use Rattle.reader.proofs.reader.reading.front_of.Goals as goal

pub returns-clause-law : goal.returns-clause-law
returns-clause-law c = lines_law c.args.text.now
