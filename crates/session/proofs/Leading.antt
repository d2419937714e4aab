-- Where runs lead: from their first record, and on when the next record is taken in.
use Rattle.std.proofs.Common.{◌≡◌, ℕ, ◌+◌, ◌-◌, ◌*◌, Bool, true, false, cond, eqb, Some, Ok, Err, Option, Result, sym, refl, ap, ◌∙◌, subst}
use Rattle.faults.specs.declared.fault.Fault.{Fault}
use Rattle.findings.specs.Next.{Found, found, stopped, record_of}
use Rattle.record.specs.Lists.{Lists}
use Rattle.verdict.specs.Brent.{numbers, takes, ruled, at_anchor_lem}
use Rattle.verdict.specs.Runs.{Reached, begun, passed}
use Rattle.verdict.specs.declared.outcome.Outcome.TheVariants.{Open}
use Rattle.verdict.specs.declared.progress.Progress.{Progress}
use Rattle.session.specs.Desk.{Desk}
use Rattle.session.specs.Taking.{Taken, LeadsTo, CountsOn}
use Rattle.session.specs.Opening.{LeadsOff}
use Rattle.session.specs.declared.passed.Passed.{Passed}
use Rattle.session.specs.declared.numbers.Numbers.{Numbers}
use Rattle.session.specs.Passing.{barred, Refuses, PassBy, LeadsOn}

pub leads_off_lem : LeadsOff
leads_off_lem letter limit x d e (Err f) step = tt
leads_off_lem letter limit x d e (Ok s) step =
    λ f.
    let there : Reached f x s.numbers.progress x x = subst (λ (z : Progress). Reached f x z x x) (sym step.1.progress) begun in
    subst (λ (z : Desk). Reached f x s.numbers.progress z.current z.anchor) (sym step.2) there

taken_leads : (f : Lists → Option Lists) (x new : Lists) (p q : Progress) (d e : Desk) → LeadsTo f x p d → takes p ≡ true → f d.current ≡ Some new → Taken new p d q e → LeadsTo f x q e
taken_leads f x new p q d e run taking makes t =
    let here = passed p d.current d.anchor new t.again t.back run taking makes t.as_before t.as_anchor in
    let there : Reached f x q new (cond (at_anchor_lem q) new d.anchor) = subst (λ (z : Progress). Reached f x z new (cond (at_anchor_lem z) new d.anchor)) (sym t.numbers) here in
    let moved : Reached f x q e.current (cond (at_anchor_lem q) new d.anchor) = subst (λ (z : Lists). Reached f x q z (cond (at_anchor_lem q) new d.anchor)) (sym t.current) there in
    subst (λ (z : Lists). Reached f x q e.current z) (sym t.anchor) moved

-- a pass that was refused leads nowhere else
stays : (g : Fault) (s t : Numbers) (d e : Desk) (r : Result Passed Fault) → Refuses g s d r t e → (f : Lists → Option Lists) (x : Lists) → LeadsTo f x s.progress d → LeadsTo f x t.progress e
stays g s t d e r refuses f x run =
    let there : LeadsTo f x t.progress d = subst (λ (z : Numbers). LeadsTo f x z.progress d) (sym refuses.session) run in
    subst (λ (z : Desk). LeadsTo f x t.progress z) (sym refuses.desk) there

goes : (b : Result (Unit {0}) Fault) (made : Found) (s t : Numbers) (d e : Desk) (r : Result Passed Fault) → PassBy b made s d r t e → (f : Lists → Option Lists) (x : Lists) → f d.current ≡ record_of made → LeadsTo f x s.progress d → LeadsTo f x t.progress e
goes (Err g) made s t d e r step f x makes run = stays g s t d e r step f x run
goes (Ok u) (stopped g) s t d e r step f x makes run = stays g s t d e r step f x run
goes (Ok u) (found new n) s t d e r step f x makes run = taken_leads f x new s.progress t.progress d e run step.takes_it makes step.taken

pub leads_on_lem : LeadsOn
leads_on_lem made s t d e r step = goes (barred s) made s t d e r step

-- whatever the rule says, it says it of pass k
ruled_passes : (again back : Bool) (k a w : ℕ) → (ruled again back k a w).passes ≡ k
ruled_passes true back k a w = refl
ruled_passes false true k a w = refl
ruled_passes false false k a w =
    elim (eqb (k - a) w) as (λ (b : Bool). (cond b (numbers k k (w * 2) Open) (numbers k a w Open)).passes ≡ k) [ true ↦ refl | false ↦ refl ]

pub counts_on_lem : CountsOn
counts_on_lem new p q d e taking t =
    ap (λ (z : Progress). z.passes) t.numbers
    ∙ subst (λ (b : Bool). (cond b (ruled t.again t.back (p.passes + 1) p.anchor p.power) p).passes ≡ p.passes + 1) (sym taking) (ruled_passes t.again t.back (p.passes + 1) p.anchor p.power)
