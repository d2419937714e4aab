use Rattle.std.proofs.Common.{length, ap, arith}
use Rattle.numerals.proofs.Lengths.{roman_short, laws}
use Rattle.numerals.proofs.numeral.page_text.Goals as goal

pub push_roman-requires : goal.push_roman-requires
push_roman-requires c = omega (arith, ap length c.new-text.ensures, roman_short c.number-in-Roman.result (omega arith))

pub returns-in-Decimal-clause-laws : goal.returns-in-Decimal-clause-laws
returns-in-Decimal-clause-laws c = laws

pub returns-in-Roman-clause-laws : goal.returns-in-Roman-clause-laws
returns-in-Roman-clause-laws c = laws
