-- The fixed form keeps the laws of layouts.
--   forming_lawful   the laws
use Rattle.std.specs.Prelude.{◌≡◌, ℕ, ◌+◌, ◌-◌, ◌*◌, ◌<◌, ◌≤◌, min, length, Result, nat_lt, refl}
use Rattle.std.proofs.Common.{ap, subst, ◌∙◌, mul-le-mul_right, add-mul, one-mul, arith}
use Rattle.std.proofs.lemmas.Bool.{cond_both, ltb-true}
use Rattle.layout.specs.Spots.{at}
use Rattle.layout.specs.Meaning.{Lawful, Proper, Outcome, placed}
use Rattle.layout.specs.declared.refusal.Refusal.{Refusal}
use Rattle.layouts.specs.Lines.{Place, place, next_line_lem, or_refused, put, Sound}
use Rattle.layouts.specs.LineLaws.{by_accepted, too_long, nearest_in_range, Room, put_here, put_below, ends_paragraph, ends_page}
use Rattle.layouts.specs.Forming.{forming, used_columns, before, put_cell}
use Rattle.layouts.specs.declared.form.state.Grid.{Grid}

abbrev Good : Grid → Place → ℕ → Outcome Place → Type 0
Good s q n = Proper (Sound s.rows s.cells) (forming.front s) (forming.paper s) n (forming.front s q)

abbrev filled : Grid → Place → Outcome Place
filled s = put (used_columns s) (λ k. k + 1)

-- a word's cell begins right after the cells before it
next_cell : (s : Grid) (q : Place) → q.used < s.cells → filled s q ≡ put_cell s q
next_cell s q l =
    let same : q.used ≡ min (q.used + 1) s.cells - 1 = omega arith in
    ap (λ k. placed (at q.page q.line (used_columns s k + 1)) (place q.page q.line (q.used + 1))) same

next_row : (s : Grid) (q : Place) → or_refused (filled s) (next_line_lem s.rows q) ≡ or_refused (put_cell s) (next_line_lem s.rows q)
next_row s q =
    let P = λ (o : Result Place Refusal). or_refused (filled s) o ≡ or_refused (put_cell s) o in
    cond_both (nat_lt q.line s.rows) _ _ P (λ _. next_cell s (place q.page (q.line + 1) 0) s.celled.0)
    (λ _. cond_both (nat_lt q.page 999) _ _ P (λ _. next_cell s (place (q.page + 1) 1 0) s.celled.0) (λ _. refl))

pub fewer_columns : (s : Grid) (j k : ℕ) → j ≤ k → used_columns s j ≤ used_columns s k
fewer_columns s j k l = mul-le-mul_right s.width l

-- a cell that is left takes a word no wider than itself
room : (s : Grid) (n k : ℕ) → n ≤ s.width → k < s.cells → Room (used_columns s) (λ j. j + 1) s.cells (s.cells * s.width) n k
room s n k short left =
    let end : (k + 1) * s.width ≡ k * s.width + s.width = add-mul k 1 s.width ∙ ap (λ x. k * s.width + x) (one-mul s.width) in
    let last = fewer_columns s (k + 1) s.cells (omega arith) in
    (omega arith, (omega arith, omega arith))

puts_fitting : (s : Grid) (q : Place) (n : ℕ) → Sound s.rows s.cells q → n ≤ s.width → Good s q n (or_refused (put_cell s) (before s q))
puts_fitting s q n h short =
    cond_both (nat_lt q.used s.cells) _ _ (λ o. Good s q n (or_refused (put_cell s) o))
    (λ e. let l = ltb-true q.used s.cells e in
    subst (Good s q n) (next_cell s q l) (put_here s.rows s.cells (s.cells * s.width) (used_columns s) (λ k. k + 1) n q h q.used (omega arith) (room s n q.used short l)))
    (λ _. subst (Good s q n) (next_row s q) (put_below s.rows s.cells (s.cells * s.width) (used_columns s) (λ k. k + 1) n q h (room s n 0 short s.celled.0)))

pub forming_lawful : Lawful forming
forming_lawful = record {
  sized = λ s. ((s.high.0, omega arith), s.fits);
  marked = λ s k. k.page.within;
  fronted = λ s q. nearest_in_range q.page;
  too_long = λ s q w long. too_long (λ n. or_refused (put_cell s) (before s q)) s.width (length w) long;
  Sound = λ s q. Sound s.rows s.cells q;
  held = λ x. x.sound;
  opens = λ s. ((omega arith, omega arith), (omega arith, s.high.0), omega arith);
  puts = λ s q w h. by_accepted (Good s q (length w)) (λ n. or_refused (put_cell s) (before s q)) s.width (length w) tt (λ _ _ short. puts_fitting s q (length w) h short);
  ends_paragraph = λ s q h. ends_paragraph s.rows s.cells (used_columns s) q h (fewer_columns s q.used s.cells h.2);
  ends_page = λ s q h. ends_page s.rows s.cells (used_columns s) q h (fewer_columns s q.used s.cells h.2);
}
