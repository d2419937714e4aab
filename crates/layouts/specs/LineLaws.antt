-- The laws of layouts, for what the line filler and the fixed form have in common.
--   by_accepted         what holds of a refusal, and of every word of 1 to 72 bytes that fits the width, holds of every word
--   too_long            no bytes, or more than 72, are too wide
--   nearest_in_range    the page nearest to any number is one
--   Room                from c used on, a word of n bytes fits its line and its share of it
--   put_here            a word put on the line of the place
--   put_below           a word put on the next line
--   ends_paragraph      the front after a paragraph end
--   ends_page           the front after a page end
use Rattle.std.specs.Prelude.{◌≡◌, ℕ, ◌+◌, ◌<◌, ◌≤◌, ◌&&◌, ◌||◌, ◌⊎◌, Result, ◌==◌, nat_lt, refl}
use Rattle.std.proofs.Common.{inl, inr, ⊎_elim, eq-or-lt_of_le, arith}
use Rattle.std.proofs.lemmas.Bool.{cond_both, or_parts, ltb-true, ltb-false, eqb-false}
use Rattle.layout.specs.Spots.{printed, nearest_page}
use Rattle.layout.specs.Meaning.{Outcome, refused, Proper, Onward}
use Rattle.layout.specs.declared.refusal.Refusal.{Refusal}
use Rattle.layout.specs.declared.refusal.Refusal.TheVariants.{WordTooWide}
use Rattle.layouts.specs.Lines.{Place, place, accepted, next_line_lem, paragraph_end, page_end, or_refused, put, front, Sound}

pub by_accepted : (P : Outcome Place → Type 0) (f : ℕ → Outcome Place) (width n : ℕ) → P (refused WordTooWide) → (1 ≤ n → n ≤ 72 → n ≤ width → P (f n)) → P (or_refused f (accepted width n))
by_accepted P f width n wide fits =
    cond_both (n == 0 || (nat_lt 72 n || nat_lt width n)) _ _ (λ o. P (or_refused f o)) (λ _. wide)
    (λ e. let a = or_parts (n == 0) (nat_lt 72 n || nat_lt width n) e in
    let b = or_parts (nat_lt 72 n) (nat_lt width n) a.1 in
    fits (omega (arith, eqb-false n 0 a.0)) (ltb-false 72 n b.0) (ltb-false width n b.1))

pub too_long : (f : ℕ → Outcome Place) (width n : ℕ) → (n ≡ 0) ⊎ (72 < n) → or_refused f (accepted width n) ≡ refused WordTooWide
too_long f width n long =
    by_accepted (λ o. o ≡ refused WordTooWide) f width n refl
    (λ some few _. absurd (⊎_elim (λ e. omega arith) (λ l. omega arith) long))

pub nearest_in_range : (p : ℕ) → (1 ≤ nearest_page p) × (nearest_page p ≤ 999)
nearest_in_range p = (omega arith, omega arith)

abbrev pub Room : (ℕ → ℕ) → (ℕ → ℕ) → ℕ → ℕ → ℕ → ℕ → Type 0
Room g u full width n c = (g c + n ≤ g (u c)) × ((g c + n ≤ width) × (u c ≤ full))

module _ (height full width : ℕ) (g u : ℕ → ℕ) (n : ℕ) (q : Place) (h : Sound height full q) where
  pub put_here : (c : ℕ) → g q.used ≤ g c → Room g u full width n c → Proper (Sound height full) (front g) (printed height width) n (front g q) (put g u (place q.page q.line c))
  put_here c past room = (
    record {
      kind = h.0;
      inside = (h.1, (omega arith, omega arith));
      ahead = inr (omega arith, inr (refl, omega arith));
      past = inr (omega arith, inr (refl, omega arith));
    },
    (h.0, h.1, room.1.1),
  )

  pub put_below : Room g u full width n 0 → Proper (Sound height full) (front g) (printed height width) n (front g q) (or_refused (put g u) (next_line_lem height q))
  put_below room =
      let Good = λ (o : Result Place Refusal). Proper (Sound height full) (front g) (printed height width) n (front g q) (or_refused (put g u) o) in
      cond_both (nat_lt q.line height) _ _ Good
      (λ e. let l = ltb-true q.line height e in (
        record {
          kind = h.0;
          inside = ((omega arith, omega arith), (omega arith, omega arith));
          ahead = inr (omega arith, inl (omega arith));
          past = inr (omega arith, inr (refl, omega arith));
        },
        (h.0, (omega arith, omega arith), room.1.1),
      ))
      (λ _. cond_both (nat_lt q.page 999) _ _ Good
      (λ e. let l = ltb-true q.page 999 e in (
        record {
          kind = (omega arith, omega arith);
          inside = ((omega arith, omega arith), (omega arith, omega arith));
          ahead = inl (omega arith);
          past = inr (omega arith, inr (refl, omega arith));
        },
        ((omega arith, omega arith), (omega arith, omega arith), room.1.1),
      ))
      (λ _. tt))

module _ (height full : ℕ) (g : ℕ → ℕ) (q : Place) (h : Sound height full q) (more : g q.used ≤ g full) where
  pub ends_paragraph : Onward (Sound height full) (front g) q (paragraph_end full q)
  ends_paragraph =
      cond_both (q.used == 0) _ _ (Onward (Sound height full) (front g) q)
      (λ _. (inr (refl, inr (refl, omega arith)), h))
      (λ _. (inr (refl, inr (refl, omega arith)), (h.0, h.1, omega arith)))

  pub ends_page : Onward (Sound height full) (front g) q (page_end height full q)
  ends_page =
      cond_both (q.page == 1 && (q.line == 1 && q.used == 0)) _ _ (Onward (Sound height full) (front g) q)
      (λ _. (inr (refl, inr (refl, omega arith)), h))
      (λ _. (inr (refl, ⊎_elim (λ e. inr (e, omega arith)) inl (eq-or-lt_of_le h.1.1)), (h.0, (omega arith, omega arith), omega arith)))
