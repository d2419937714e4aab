-- The line filler keeps the laws of layouts.
--   filling_lawful   the laws
use Rattle.std.specs.Prelude.{ℕ, ◌+◌, ◌≤◌, length, Result, ◌==◌, nat_le}
use Rattle.std.proofs.Common.{arith}
use Rattle.std.proofs.lemmas.Bool.{cond_both, leb-true, eqb-true}
use Rattle.layout.specs.Meaning.{Lawful, Proper, Outcome}
use Rattle.layout.specs.declared.refusal.Refusal.{Refusal}
use Rattle.layouts.specs.Lines.{Place, or_refused, put, Sound}
use Rattle.layouts.specs.LineLaws.{by_accepted, too_long, nearest_in_range, put_here, put_below, ends_paragraph, ends_page}
use Rattle.layouts.specs.Filling.{filling, columns, before}
use Rattle.layouts.specs.declared.filler.state.Sheet.{Sheet}

abbrev Good : Sheet → Place → ℕ → Outcome Place → Type 0
Good s q n = Proper (Sound s.height s.width) (filling.front s) (filling.paper s) n (filling.front s q)

-- a word of 1 to width bytes
puts_fitting : (s : Sheet) (q : Place) (n : ℕ) → Sound s.height s.width q → 1 ≤ n → n ≤ s.width → Good s q n (or_refused (put columns (λ c. c + n)) (before s q n))
puts_fitting s q n h some short =
    let P = λ (o : Result Place Refusal). Good s q n (or_refused (put columns (λ c. c + n)) o) in
    let here = put_here s.height s.width s.width columns (λ c. c + n) n q h in
    cond_both (q.used == 0) _ _ P
    (λ e. let z = eqb-true q.used 0 e in here q.used (omega arith) (omega arith, (omega arith, omega arith)))
    (λ _. cond_both (nat_le (q.used + 1 + n) s.width) _ _ P
    (λ e. let l = leb-true (q.used + 1 + n) s.width e in here (q.used + 1) (omega arith) (omega arith, (omega arith, omega arith)))
    (λ _. put_below s.height s.width s.width columns (λ c. c + n) n q h (omega arith, (omega arith, omega arith))))

pub filling_lawful : Lawful filling
filling_lawful = record {
  sized = λ s. (s.high, s.wide);
  marked = λ s k. k.page.within;
  fronted = λ s q. nearest_in_range q.page;
  too_long = λ s q w long. too_long (λ n. or_refused (put columns (λ c. c + n)) (before s q n)) s.width (length w) long;
  Sound = λ s q. Sound s.height s.width q;
  held = λ x. x.sound;
  opens = λ s. ((omega arith, omega arith), (omega arith, s.high.0), omega arith);
  puts = λ s q w h. by_accepted (Good s q (length w)) (λ n. or_refused (put columns (λ c. c + n)) (before s q n)) s.width (length w) tt (λ some _ short. puts_fitting s q (length w) h some short);
  ends_paragraph = λ s q h. ends_paragraph s.height s.width columns q h (omega arith);
  ends_page = λ s q h. ends_page s.height s.width columns q h (omega arith);
}
