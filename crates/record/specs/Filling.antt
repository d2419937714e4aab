-- What a list of entries becomes.
--   Pushes        one more entry at the end where there are fewer than 128, or else nothing
--   LendsEntry    the list ends with the i-th entry as it was left
use Rattle.std.specs.Prelude.{◌≡◌, ℕ, cond, List, [], ◌∷◌, ◌++◌, length, Ok, Err, Result, MatchResult, nat_lt}
use Rattle.std.specs.Borrow.{Lends, Fml, RattleType, MutBor}
use Rattle.std.specs.Vec.{with_item}
use Rattle.record.specs.declared.entries.Entries.{Entries}
use Rattle.record.specs.contracts.entries.Entries.{the_row}
use Rattle.record.specs.declared.error.EntryError.{EntryError}
use Rattle.record.specs.declared.error.EntryError.TheVariants.{Full}

abbrev pub Pushes : {X : Type 0} → Result (Unit {0}) EntryError → List X → X → List X → Type 0
Pushes r xs x after = (r ≡ cond (nat_lt (length xs) 128) (Ok tt) (Err Full)) × MatchResult r (λ _. after ≡ xs ++ (x ∷ [])) (λ _. after ≡ xs)

module _ (E : RattleType) where
  abbrev pub with_entry : Entries E.Denot → ℕ → E.Denot → Entries E.Denot
  with_entry s i w = record { list = with_item s.list i w; roomy = s.roomy; few = s.few }

  abbrev pub LendsEntry : MutBor (Entries E.Denot) → ℕ → MutBor E.Denot → Fml
  LendsEntry s i r = Lends (the_row E) E s r (with_entry s.now i)
