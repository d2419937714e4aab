use Rattle.std.proofs.Common.{⊎_elim}
use mathlib.Core.Logic.{inl, inr}
use Rattle.record.proofs.Fronts.{same_front, apart, all_of_both}
use Rattle.record.proofs.compare.first_difference.Goals as goal

pub returns-then-n-b : goal.returns-then-n-b
returns-then-n-b g c =
    let e = g.met.E.Exact in (
      same_front g.E.PartialEq.eq e.exact e.whole _ _ _ c.agreement-n.ensures,
      apart g.E.PartialEq.eq e.exact e.whole _ _ _ c.agreement-n.ensures (⊎_elim inl (λ p. inr p.1) c.if-n-b.either),
    )

pub returns-else-n-b : goal.returns-else-n-b
returns-else-n-b g c =
    let e = g.met.E.Exact in
    all_of_both g.E.PartialEq.eq e.exact e.whole _ _ _ c.agreement-n.ensures c.if-n-b.false.0 c.if-n-b.false.1
