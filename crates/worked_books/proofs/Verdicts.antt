-- How few passes lead to a verdict, for any step on records, from the empty record.
use Rattle.std.proofs.Common.{◌≡◌, true, false, Some, Decides, Option, sym, refl}
use mathlib.Core.Bool.{false≢true}
use Rattle.record.specs.Lists.{Lists, no_entries}
use Rattle.verdict.specs.Brent.{numbers, start}
use Rattle.verdict.specs.Runs.{Reached, begun, passed}
use Rattle.verdict.specs.declared.outcome.Outcome.TheVariants.{Open, Settled, Oscillates}

abbrev pub Differ : Lists → Lists → Type 0
Differ x y = x ≡ y → false ≡ true

unlike : {x y : Lists} → Differ x y → Decides false (x ≡ y)
unlike h = (λ e. absurd (false≢true e), h)

alike : {x : Lists} → Decides true (x ≡ x)
alike = (λ e. refl, λ e. refl)

module _ (f : Lists → Option Lists) where
  -- the first pass makes nothing new
  pub still : f no_entries ≡ Some no_entries → Reached f no_entries (numbers 1 0 1 Settled) no_entries no_entries
  still makes = passed start no_entries no_entries no_entries true true begun refl makes alike alike

  module _ (x : Lists) (first : f no_entries ≡ Some x) (new : Differ x no_entries) where
    -- the anchor moves to the first record
    one_pass : Reached f no_entries (numbers 1 1 2 Open) x x
    one_pass = passed start no_entries no_entries x false false begun refl first (unlike new) (unlike new)

    pub settled_at_two : f x ≡ Some x → Reached f no_entries (numbers 2 1 2 Settled) x x
    settled_at_two again = passed (numbers 1 1 2 Open) x x x true true one_pass refl again alike alike

    module _ (y : Lists) (second : f x ≡ Some y) (moved : Differ y x) where
      two_passes : Reached f no_entries (numbers 2 1 2 Open) y x
      two_passes = passed (numbers 1 1 2 Open) x x y false false one_pass refl second (unlike moved) (unlike moved)

      pub settled_at_three : f y ≡ Some y → Reached f no_entries (numbers 3 1 2 Settled) y x
      settled_at_three again = passed (numbers 2 1 2 Open) y x y true false two_passes refl again alike (unlike moved)

      pub swings_at_three : f y ≡ Some x → Reached f no_entries (numbers 3 1 2 Oscillates) x x
      swings_at_three back = passed (numbers 2 1 2 Open) y x x false true two_passes refl back (unlike (λ e. moved (sym e))) alike
