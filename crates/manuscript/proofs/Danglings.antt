-- The first dangling reference of two lists of marks joined.
use Rattle.std.proofs.Common.{◌≡◌, ℕ, Bool, true, false, cond, List, [], ◌∷◌, ◌++◌, Some, None, Option, refl}
use Rattle.faults.specs.declared.fault.Fault.{Fault}
use Rattle.manuscript.specs.Standing.{Marking, unmet, dangling}

abbrev pub either : Option Fault → Option Fault → Option Fault
either None g = g
either (Some f) g = Some f

either_cond : (b : Bool) (f : Fault) (o p q : Option Fault) → o ≡ either p q → cond b (Some f) o ≡ either (cond b (Some f) p) q
either_cond true f o p q e = refl
either_cond false f o p q e = e

pub dangling_append : (names : List (List ℕ)) (xs ys : List Marking) → dangling names (xs ++ ys) ≡ either (dangling names xs) (dangling names ys)
dangling_append names [] ys = refl
dangling_append names (x ∷ xs) ys = either_cond (unmet names x) _ _ _ _ (dangling_append names xs ys)
