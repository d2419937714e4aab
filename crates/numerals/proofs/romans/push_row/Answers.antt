use Rattle.std.proofs.Common.{◌≡◌, ℕ, suc, ◌-◌, ◌/◌, List, ◌++◌, length, replicate, sym, ap, ◌∙◌, append_assoc, append-nil, arith, length-append}
use Rattle.std.specs.List.{flat_map}
use Rattle.numerals.specs.Roman.{Row, letters}
use Rattle.numerals.proofs.Greedy.{taken, not_taken}
use Rattle.numerals.proofs.romans.push_row.Goals as goal

-- the next row, and those that are left after it
again : (xs : List ℕ) (row : Row) (m q : ℕ) → m ≡ suc q → (xs ++ letters row) ++ flat_map letters (replicate q row) ≡ xs ++ flat_map letters (replicate m row)
again xs row m q e =
    append_assoc xs (letters row) (flat_map letters (replicate q row)) ∙ ap (λ k. xs ++ flat_map letters (replicate k row)) (sym e)

pub push_letters-requires : goal.push_letters-requires
push_letters-requires c =
    let t = taken c.loop-rest.rest c.args.row.0 c.requires.value c.loop-rest-test.true in
    let e = again c.loop-rest.text.items c.args.row _ _ t.0 in
    omega (arith, c.requires.room, simp length-append at (ap length (e ∙ c.loop-rest.invariant.items)))

pub loop-rest-smaller : goal.loop-rest-smaller
loop-rest-smaller c = omega (arith, c.requires.value, c.loop-rest-test.true)

pub loop-rest-preserved : goal.loop-rest-preserved
loop-rest-preserved c =
    let row = c.args.row in
    let left = c.loop-rest.rest - row.0 in
    let t = taken c.loop-rest.rest row.0 c.requires.value c.loop-rest-test.true in
    record {
      rest = sym t.1 ∙ c.loop-rest.invariant.rest;
      items = ap (λ l. l ++ flat_map letters (replicate (left / row.0) row)) c.push_letters.ensures ∙ again c.loop-rest.text.items row _ _ t.0 ∙ c.loop-rest.invariant.items;
    }

pub returns-clause-rest : goal.returns-clause-rest
returns-clause-rest c = sym (not_taken c.loop-rest.rest c.args.row.0 c.loop-rest-test.false).1 ∙ c.loop-rest.invariant.rest

pub returns-clause-items : goal.returns-clause-items
returns-clause-items c =
    let text = c.loop-rest.text.items in
    let none = (not_taken c.loop-rest.rest c.args.row.0 c.loop-rest-test.false).0 in
    sym (append-nil text) ∙ ap (λ k. text ++ flat_map letters (replicate k c.args.row)) (sym none) ∙ c.loop-rest.invariant.items
