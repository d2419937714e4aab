-- The layout keeps the laws of layouts.
--   Sound            page 1 to 999, and no more words on it than it takes
--   counting_lawful  the laws
use Rattle.std.specs.Prelude.{◌≡◌, ℕ, ◌<◌, ◌≤◌, ◌||◌, ◌⊎◌, List, length, ◌==◌, nat_lt, refl}
use Rattle.std.proofs.Common.{⊎_elim, arith}
use Rattle.std.proofs.lemmas.Bool.{cond_both, or_parts, ltb-true, ltb-false, eqb-false}
use Rattle.layout.specs.Spots.{Page}
use Rattle.layout.specs.Meaning.{Lawful, Proper, Onward, refused}
use Rattle.layout.specs.declared.refusal.Refusal.TheVariants.{WordTooWide}
use Rattle.words_per_page.specs.Counting.{Count, counting, sets}
use Rattle.words_per_page.specs.declared.state.Quota.{Quota}

abbrev Sound : Quota → Count → Type 0
Sound s q = Page q.page × (q.words ≤ s.words)

too_long : (s : Quota) (q : Count) (w : List ℕ) → (length w ≡ 0) ⊎ (72 < length w) → sets s q w ≡ refused WordTooWide
too_long s q w long =
    let n = length w in
    cond_both (n == 0 || nat_lt 72 n) _ _ (λ o. o ≡ refused WordTooWide) (λ _. refl)
    (λ e. let f = or_parts (n == 0) (nat_lt 72 n) e in absurd (⊎_elim (eqb-false n 0 f.0) (λ l. omega (arith, ltb-false 72 n f.1)) long))

puts : (s : Quota) (q : Count) (w : List ℕ) → Sound s q → Proper (Sound s) (counting.front s) (counting.paper s) (length w) (counting.front s q) (sets s q w)
puts s q w h =
    let Good = Proper (Sound s) (counting.front s) (counting.paper s) (length w) (counting.front s q) in
    cond_both (length w == 0 || nat_lt 72 (length w)) _ _ Good (λ _. tt)
    (λ _. cond_both (nat_lt q.words s.words) _ _ Good
    (λ e. let l = ltb-true q.words s.words e in
    (record { kind = h.0; inside = tt; ahead = omega arith; past = omega arith }, (h.0, omega arith)))
    (λ _. cond_both (nat_lt q.page 999) _ _ Good
    (λ e. let l = ltb-true q.page 999 e in
    (record { kind = (omega arith, omega arith); inside = tt; ahead = omega arith; past = omega arith }, ((omega arith, omega arith), s.some)))
    (λ _. tt)))

pub counting_lawful : Lawful counting
counting_lawful = record {
  sized = λ s. tt;
  marked = λ s k. k.page.within;
  fronted = λ s q. (omega arith, omega arith);
  too_long = too_long;
  Sound = Sound;
  held = λ x. (x.count.page.within, x.counted);
  opens = λ s. ((omega arith, omega arith), omega arith);
  puts = puts;
  ends_paragraph = λ s q h. (omega arith, h);
  ends_page = λ s q h. cond_both (q.words == 0) _ _ (Onward (Sound s) (counting.front s) q) (λ _. (omega arith, h)) (λ _. (omega arith, (h.0, omega arith)));
}
