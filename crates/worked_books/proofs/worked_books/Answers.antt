use Rattle.std.proofs.Common.{ℕ, Bool, eqb, get_or, Some, None, Option, refl, ap}
use Rattle.layouts.specs.Filling.{filling}
use Rattle.layouts.specs.Forming.{forming}
use Rattle.numerals.specs.Roman.{rows}
use Rattle.numerals.specs.declared.style.NumeralStyle.TheVariants.{Decimal, Roman}
use Rattle.record.specs.Lists.{Lists, no_entries}
use Rattle.worked_books.specs.Books.{text_t, contents_book, narrow, low, column, after, pages}
use Rattle.worked_books.proofs.Verdicts.{still, settled_at_two, settled_at_three, swings_at_three}
use Rattle.worked_books.proofs.worked_books.Goals as goal

abbrev made : Option Lists → Lists
made None = no_entries
made (Some x) = x

-- whether the first label stands on a page; no page is 0
abbrev on : ℕ → Lists → Bool
on p x = eqb (get_or (pages (Some x)) 0 0) p

pub returns : goal.returns
unfolding rows
returns c = record {
  empty = (refl, record { progress = _; current = no_entries; anchor = no_entries; reached = still _ refl; verdict = refl });
  decimal = (refl, refl, record { progress = _; current = _; anchor = _; reached = settled_at_two _ (made (after filling narrow Decimal text_t 1)) refl (λ e. ap (on 0) e) refl; verdict = refl });
  roman = (refl, refl, refl, record { progress = _; current = _; anchor = _; reached = swings_at_three _ (made (after filling narrow Roman text_t 1)) refl (λ e. ap (on 0) e) (made (after filling narrow Roman text_t 2)) refl (λ e. ap (on 3) e) refl; verdict = refl });
  form = (refl, refl, record { progress = _; current = _; anchor = _; reached = settled_at_two _ (made (after forming column Roman text_t 1)) refl (λ e. ap (on 0) e) refl; verdict = refl });
  contents = (refl, refl, record { progress = _; current = _; anchor = _; reached = settled_at_three _ (made (after filling low Decimal contents_book 1)) refl (λ e. ap (on 0) e) (made (after filling low Decimal contents_book 2)) refl (λ e. ap (on 1) e) refl; verdict = refl });
}
