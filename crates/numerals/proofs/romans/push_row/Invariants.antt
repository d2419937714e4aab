use Rattle.std.proofs.Common.{◌≡◌, ◌%◌, ◌/◌, ◌++◌, replicate}
use Rattle.std.specs.List.{flat_map}
use Rattle.numerals.specs.Roman.{letters}
use Rattle.numerals.proofs.romans.push_row.Given as goal

-- what is left to add gives the result
abbrev pub invariant-loop-rest : goal.invariant-loop-rest
invariant-loop-rest l = record {
  rest : l.rest % l.row.0 ≡ l.n % l.row.0;
  items : l.text.items ++ flat_map letters (replicate (l.rest / l.row.0) l.row) ≡ l.initial.text.items ++ flat_map letters (replicate (l.n / l.row.0) l.row);
}

abbrev pub decreases-loop-rest : goal.decreases-loop-rest
decreases-loop-rest l = l.rest
