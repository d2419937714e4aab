-- The verdict is right, by what the numbers stand for along a run. Assumes nothing.
use Rattle.std.proofs.Common.{◌≡◌, ℕ, suc, ◌+◌, ◌-◌, ◌*◌, ◌<◌, ◌≤◌, Bool, true, false, cond, eqb, Some, Decides, Option, sym, refl, ap, ◌∙◌, subst, ⊎_elim, arith}
use mathlib.Core.Bool.{false≢true}
use Rattle.std.proofs.lemmas.Option.{same_Some}
use Rattle.std.proofs.lemmas.Bool.{cases_lt, eqb-false, eq-eqb, ne_eqb}
use Rattle.verdict.specs.Brent.{numbers, takes, ruled, at_anchor_lem, verdict_of}
use Rattle.verdict.specs.Said.{kind_number, said}
use Rattle.verdict.specs.Runs.{next, run, Rests, Period, Reached, begun, passed, Right, AlwaysRight}
use Rattle.verdict.specs.declared.outcome.Outcome.{Outcome}
use Rattle.verdict.specs.declared.outcome.Outcome.TheVariants.{Open, Settled, Oscillates}
use Rattle.verdict.specs.declared.progress.Progress.{Progress}
use Rattle.verdict.proofs.Rounds.{Moving, Fresh, never_rests, never_ends, repeats, no_shorter}

module _ {X : Type 0} (f : X → Option X) (x₀ : X) where
  abbrev x : ℕ → Option X
  x = run f x₀

  -- what each outcome stands for at pass n with the anchor b
  abbrev Known : Outcome → ℕ → ℕ → Type 0
  Known Open n b = Moving f x₀ n × Fresh f x₀ b n
  Known Settled n b = (m : ℕ) × (n ≡ suc m) × (x n ≡ x m)
  Known Oscillates n b = (m : ℕ) × (n ≡ suc m) × (b ≤ m) × (x n ≡ x b) × Moving f x₀ n × Fresh f x₀ b m

  -- what a progress stands for, with the current record and the anchor's
  abbrev Stands : Progress → X → X → Type 0
  Stands p c a = (p.anchor ≤ p.passes) × (x p.passes ≡ Some c) × (x p.anchor ≡ Some a) × Known p.outcome p.passes p.anchor

  -- different outcomes have different numbers
  apart : (o u : Outcome) → eqb (kind_number o) (kind_number u) ≡ false → o ≡ u → ⊥
  apart o u d e = eqb-false (kind_number o) (kind_number u) d (ap kind_number e)

  -- an open progress with n passes and the anchor b, and a step from c that makes d
  module _ (n b : ℕ) (c a d : X) (low : b ≤ n) (current : x n ≡ Some c) (anchor : x b ≡ Some a) (made : x (suc n) ≡ Some d) (moving : Moving f x₀ n) (fresh : Fresh f x₀ b n) where
    -- a step that makes something else than c does not rest
    moving_on : (d ≡ c → ⊥) → Moving f x₀ (suc n)
    moving_on other j l (y, after, before) =
        ⊎_elim
        (λ early. moving j early (y, after, before))
        (λ late.
        let here : j ≡ n = omega arith in
        let p : x n ≡ Some y = subst (λ k. x k ≡ Some y) here before in
        let q : x (suc n) ≡ Some y = subst (λ k. x (suc k) ≡ Some y) here after in
        other (same_Some _ _ (sym made ∙ q ∙ sym p ∙ current)))
        (cases_lt j n)

    -- what is not the anchor's record is not met again
    fresh_on : (d ≡ a → ⊥) → Fresh f x₀ b (suc n)
    fresh_on other j l u e =
        ⊎_elim
        (λ early. fresh j l (omega arith) e)
        (λ late.
        let here : j ≡ suc n = omega arith in
        let p : x (suc n) ≡ x b = subst (λ k. x k ≡ x b) here e in
        other (same_Some _ _ (sym made ∙ p ∙ anchor)))
        (cases_lt j (suc n))

    -- an anchor that stays keeps its record
    stays : x b ≡ Some (cond (eqb (suc n) b) d a)
    stays = subst (λ t. x b ≡ Some (cond t d a)) (sym (ne_eqb (suc n) b (λ e. omega arith))) anchor

    -- neither comparison held; t: the anchor moves
    open_on : (w : ℕ) (t : Bool) → (d ≡ c → ⊥) → (d ≡ a → ⊥) → let q = cond t (numbers (suc n) (suc n) (w * 2) Open) (numbers (suc n) b w Open) in Stands q d (cond (at_anchor_lem q) d a)
    open_on w true other far = (
      omega arith,
      made,
      subst (λ t. x (suc n) ≡ Some (cond t d a)) (sym (eq-eqb (suc n) (suc n) refl)) made,
      (moving_on other, λ j l u e. absurd (omega arith)),
    )
    open_on w false other far = (omega arith, made, stays, (moving_on other, fresh_on far))

    -- a step more
    stands_on : (w : ℕ) (again back : Bool) → Decides again (d ≡ c) → Decides back (d ≡ a) → let q = ruled again back (suc n) b w in Stands q d (cond (at_anchor_lem q) d a)
    stands_on w true back s t = (omega arith, made, stays, (n, refl, made ∙ ap Some (s.0 refl) ∙ sym current))
    stands_on w false true s t = (
      omega arith,
      made,
      stays,
      (n, refl, low, made ∙ ap Some (t.0 refl) ∙ sym anchor, moving_on (λ e. false≢true (s.1 e)), fresh),
    )
    stands_on w false false s t = open_on w (eqb (suc n - b) w) (λ e. false≢true (s.1 e)) (λ e. false≢true (t.1 e))

  -- only an open progress takes in a pass
  takes_open : (o : Outcome) (n b w : ℕ) → takes (numbers n b w o) ≡ true → o ≡ Open
  takes_open Open n b w e = refl
  takes_open Settled n b w e = absurd (false≢true e)
  takes_open Oscillates n b w e = absurd (false≢true e)

  -- the numbers stand for what they should all along a run
  stands : {p : Progress} {c a : X} → Reached f x₀ p c a → Stands p c a
  stands begun = (omega arith, refl, refl, (λ j l. absurd (omega arith), λ j l u. absurd (omega arith)))
  stands (passed p c a d again back before room makes s t) =
      let i = stands before in
      let is_open = takes_open p.outcome p.passes p.anchor p.power room in
      let known : Known Open p.passes p.anchor = subst (λ o. Known o p.passes p.anchor) is_open i.3 in
      let made : x (suc p.passes) ≡ Some d = ap (next f x₀) i.1 ∙ makes in
      let after = stands_on p.passes p.anchor c a d i.0 i.1 i.2 made known.0 known.1 p.power again back s t in
      let count : suc p.passes ≡ p.passes + 1 = omega arith in
      let ruling = λ (k : ℕ). ruled again back k p.anchor p.power in
      let counted = subst (λ k. Stands (ruling k) d (cond (at_anchor_lem (ruling k)) d a)) count after in
      subst (λ t. let q = cond t (ruling (p.passes + 1)) p in Stands q d (cond (at_anchor_lem q) d a)) (sym room) counted

  -- what they stand for makes the verdict right
  right_by : (o : Outcome) (n b w : ℕ) (c : X) → x n ≡ Some c → Known o n b → Right f x₀ (said (verdict_of (numbers n b w o)))
  right_by Open n b w c t (moving, fresh) = record {
    settled = λ e. absurd (apart Open Settled refl e);
    rests = λ k l r. absurd (moving k l r);
    never = λ e. absurd (apart Open Oscillates refl e);
    endless = λ e. absurd (e refl);
    period = λ e. absurd (e refl);
    least = λ e. absurd (e refl);
  }
  right_by Settled n b w c t (m, e, same) =
      let last : m ≡ n - 1 = omega arith in
      let later : m < n = omega arith in
      let round = repeats f x₀ n m later same (c, t) in
      let one : n - m ≡ 1 = omega arith in
      let period = subst (λ k. Period f x₀ k 1) last (subst (λ q. Period f x₀ m q) one round) in
      let rest : Rests f x₀ m = (c, subst (λ k. x k ≡ Some c) e t, sym same ∙ t) in
      record {
        settled = λ e. (omega arith, subst (Rests f x₀) last rest);
        rests = λ k l r. refl;
        never = λ e. absurd (apart Settled Oscillates refl e);
        endless = λ _. never_ends f x₀ n m later same (c, t);
        period = λ _. period;
        least = λ _ q p. p.0;
      }
  right_by Oscillates n b w c t (m, e, low, same, moving, fresh) =
      let later : b < n = omega arith in
      record {
        settled = λ e. absurd (apart Oscillates Settled refl e);
        rests = λ k l r. absurd (moving k l r);
        never = λ _. never_rests f x₀ n b later same moving;
        endless = λ _. never_ends f x₀ n b later same (c, t);
        period = λ _. repeats f x₀ n b later same (c, t);
        least = λ _ q p. let l = no_shorter f x₀ m b fresh q p in omega arith;
      }

-- for records of any kind
pub always_right_lem : (X : Type 0) (p : Progress) → AlwaysRight X p (verdict_of p)
always_right_lem X p f x₀ c a r =
    let i = stands f x₀ r in
    (i.1, i.2, right_by f x₀ p.outcome p.passes p.anchor p.power c i.1 i.3)
