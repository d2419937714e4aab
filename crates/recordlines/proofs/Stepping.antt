-- When an entry fits, and when it does not.
use Rattle.std.proofs.Common.{◌≡◌, ◌<◌, true, not, length, is_some, is_ok, None, Ok, Err, Result, MatchResult, sym, ap, ◌∙◌, subst}
use Rattle.std.proofs.lemmas.Bool.{and_from, lt-ltb, false≢true}
use Rattle.faults.specs.declared.cause.Cause.{Cause}
use Rattle.record.specs.Positions.{Position, Label, label_ok, heading_ok}
use Rattle.record.specs.Labels.{place_of}
use Rattle.record.specs.Lists.{Lists}
use Rattle.recordlines.specs.Step.{Step, ends, label_fits, heading_fits}
use Rattle.recordlines.specs.Raw.{Does}
use Rattle.recordlines.specs.declared.steps.Told.{Told}
use Rattle.recordlines.specs.declared.steps.Told.TheVariants.{End}

pub label_fit : (ls : Lists) (l : Label) → label_ok l ≡ true → (place_of l.name ls.labels ≡ None) × (length ls.labels < 128) → label_fits ls l ≡ true
unfolding label_fits
label_fit ls l e p = and_from _ _ e (and_from _ _ (ap (λ o. not (is_some o)) p.0) (lt-ltb _ 128 p.1))

pub heading_fit : (ls : Lists) (p : Position) → heading_ok p ≡ true → length ls.contents < 128 → heading_fits ls p ≡ true
unfolding heading_fits
heading_fit ls p e h = and_from _ _ e (lt-ltb _ 128 h)

-- a line that was told as the end, where a refusal is mapped to another
pub ended : {D : Type 0} (P : Cause → Type 0) (r : Result Told Cause) (mapped : Result Told D) (t : Told) (s : Step) (before after : Lists) → MatchResult r (λ x. mapped ≡ Ok x) P → is_ok mapped ≡ is_ok r → mapped ≡ Ok t → t ≡ End → Does s r before after → (s ≡ ends) × (after ≡ before)
ended P (Ok x) mapped t s before after h v was e d = subst (λ y. Does s (Ok y) before after) (let q : x ≡ End = cc in q) d
ended P (Err c) mapped t s before after h v was e d = absurd (false≢true (sym v ∙ ap is_ok was))
