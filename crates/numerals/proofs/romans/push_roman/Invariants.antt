use Rattle.std.proofs.Common.{◌≡◌, ◌++◌, drop}
use Rattle.std.specs.List.{flat_map}
use Rattle.numerals.specs.Roman.{rows, letters, chosen, roman}
use Rattle.numerals.proofs.romans.push_roman.Given as goal

-- what is left to add gives the result
abbrev pub invariant-loop-row : goal.invariant-loop-row
invariant-loop-row l = l.text.items ++ flat_map letters (chosen (drop l.row-index rows) l.rest) ≡ l.initial.text.items ++ roman l.n
