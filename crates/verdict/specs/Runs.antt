-- Runs of a step that may refuse, and what the verdict promises of them.
--   next            the step from what was reached, if anything was
--   run             x(k): what k steps lead to, if none of them was refused; it goes on past every verdict
--   Made            x(k) is there: none of k steps was refused
--   Alike           x(i) and x(j) are there, and are the same
--   Rests           the step from x(k) was accepted and gave back x(k)
--   Period          q is a period from pass b on
--   Reached         the numbers, the current record and the anchor's record that accepted steps lead to
--   Right           what is said of a run is true
--   AlwaysRight     so is the verdict that a progress gives, in every run of records X that leads to it
use Rattle.std.specs.Prelude.{◌≡◌, ℕ, zero, suc, ◌+◌, ◌<◌, ◌≤◌, Bool, true, cond, Some, None, Decides, Option, ◌≢◌}
use Rattle.verdict.specs.Brent.{start, takes, advanced, at_anchor_lem}
use Rattle.verdict.specs.Said.{Said, said}
use Rattle.verdict.specs.declared.outcome.Outcome.TheVariants.{Open, Settled, Oscillates}
use Rattle.verdict.specs.declared.outcome.Verdict.{Verdict}
use Rattle.verdict.specs.declared.progress.Progress.{Progress}

-- f makes a new record of the old one, or refuses; x₀ is the starting record
module _ {X : Type 0} (f : X → Option X) (x₀ : X) where
  abbrev pub next : Option X → Option X
  next None = None
  next (Some x) = f x

  abbrev pub run : ℕ → Option X
  run zero = Some x₀
  run (suc k) = next (run k)

  abbrev pub Made : ℕ → Type 0
  Made k = (x : X) × (run k ≡ Some x)

  abbrev pub Alike : ℕ → ℕ → Type 0
  Alike i j = (x : X) × (run i ≡ Some x) × (run j ≡ Some x)

  abbrev pub Rests : ℕ → Type 0
  Rests k = Alike (suc k) k

  abbrev pub Period : ℕ → ℕ → Type 0
  Period b q = (1 ≤ q) × ((i : ℕ) → b ≤ i → Alike (i + q) i)

  -- a step from the current record c makes n, which is compared with c and with the anchor's record a
  pub data Reached : Progress → X → X → Type 0 where
    begun : Reached start x₀ x₀
    passed : (p : Progress) (c a n : X) (again back : Bool) → Reached p c a → takes p ≡ true → f c ≡ Some n → Decides again (n ≡ c) → Decides back (n ≡ a) → Reached (advanced again back p) n (cond (at_anchor_lem (advanced again back p)) n a)

  pub record Right (v : Said) : Type 0 where
    -- settled is said exactly when a step gave back what it began with: it is the last step made
    pub settled : v.kind ≡ Settled → (v.passes ≡ suc v.since) × Rests v.since
    pub rests : (k : ℕ) → k < v.passes → Rests k → v.kind ≡ Settled
    -- where oscillates is said no step ever gives back what it begins with, however far the run goes on
    pub never : v.kind ≡ Oscillates → (k : ℕ) → Rests k → ⊥
    -- where either is said no step is ever refused, and the period named is one from `since` on, the smallest
    pub endless : (v.kind ≢ Open) → (k : ℕ) → Made k
    pub period : (v.kind ≢ Open) → Period v.since v.period
    pub least : (v.kind ≢ Open) → (q : ℕ) → Period v.since q → v.period ≤ q

abbrev pub AlwaysRight : Type 0 → Progress → Verdict → Type 0
AlwaysRight X p v = (f : X → Option X) (x₀ c a : X) → Reached f x₀ p c a → (run f x₀ p.passes ≡ Some c) × (run f x₀ p.anchor ≡ Some a) × Right f x₀ (said v)
