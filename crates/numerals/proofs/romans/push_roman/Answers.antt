use Rattle.std.proofs.Common.{◌+◌, ◌++◌, length, drop, refl, sym, ap, ◌∙◌, arith, length-append}
use Rattle.std.specs.List.{flat_map}
use Rattle.numerals.specs.Roman.{rows, letters, chosen}
use Rattle.numerals.proofs.Greedy.{row_added, ends}
use Rattle.numerals.proofs.romans.push_roman.Goals as goal

pub push_row-rest-requires-clause-room : goal.push_row-rest-requires-clause-room
unfolding rows
push_row-rest-requires-clause-room c =
    let e = row_added c.loop-row.text.items c.loop-row.row-index c.loop-row.rest _ c.loop-row-test.true refl in
    omega (arith, c.requires, simp length-append at (ap length (sym e ∙ c.loop-row.invariant)))

pub loop-row-preserved : goal.loop-row-preserved
unfolding rows
loop-row-preserved c =
    let p = c.push_row-rest.ensures in
    (λ i. p.items i ++ flat_map letters (chosen (drop (c.loop-row.row-index + 1) rows) (p.rest i)))
    ∙ sym (row_added c.loop-row.text.items c.loop-row.row-index c.loop-row.rest _ c.loop-row-test.true refl)
    ∙ c.loop-row.invariant

pub returns : goal.returns
unfolding rows
returns c = sym (ends c.loop-row.text.items c.loop-row.row-index c.loop-row.rest c.loop-row-test.false) ∙ c.loop-row.invariant
