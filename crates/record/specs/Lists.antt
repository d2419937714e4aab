-- What a table means.
--   Lists                     the labels and the contents, in order
--   no_entries                two empty lists
--   lists_of                  the lists of a table, as plain values
--   with_label                the lists with one more label at the end
--   with_heading              the lists with one more contents entry at the end
--   put_position              the lists with the i-th label at another position
--   Answer                    what a call that may refuse answers
--   room                      whether there is room for one more entry
--   on_page                   an answer, where the page is one
--   PageAt                    what making a page of a number answers
--   Changes                   what such a call answers and leaves: the lists are changed, or else they stay
--   AddsLabel, AddsHeading    one more entry, where there is room for it
--   AddsNewLabel              one more label, where its name is new and there is room for it
--   Fills                     another position for the i-th label, where there is one and the page is one
--   PutsLabel, PutsHeading    one more entry, where the position is right and there is room for it
use Rattle.std.specs.Prelude.{◌≡◌, ℕ, cond, List, [], ◌∷◌, ◌++◌, map, length, true, false, is_some, Ok, Err, Result, MatchResult, vec_items, nat_le, nat_lt}
use Rattle.record.specs.Positions.{Position, Label}
use Rattle.record.specs.Labels.{place_of, with_position}
use Rattle.record.specs.Meaning.{label_of, position_of}
use Rattle.numerals.specs.Numeral.{is_page}
use Rattle.pages.specs.declared.Page.{Page}
use Rattle.record.specs.declared.table.Table.{Table}
use Rattle.record.specs.declared.error.EntryError.{EntryError}
use Rattle.record.specs.declared.error.EntryError.TheVariants.{Absent, NoPage, NoHeading, Repeated, Full}

pub record Lists : Type 0 where
  pub labels : List Label
  pub contents : List Position

abbrev pub Answer : Type 0
Answer = Result (Unit {0}) EntryError

abbrev pub no_entries : Lists
no_entries = record { labels = []; contents = [] }

abbrev pub lists_of : Table → Lists
lists_of t = record { labels = map label_of (vec_items t.labels.list); contents = map position_of (vec_items t.contents.list) }

abbrev pub with_label : Lists → Label → Lists
with_label ls l = record { labels = ls.labels ++ (l ∷ []); contents = ls.contents }

abbrev pub with_heading : Lists → Position → Lists
with_heading ls p = record { labels = ls.labels; contents = ls.contents ++ (p ∷ []) }

abbrev pub put_position : Lists → ℕ → Position → Lists
put_position ls i p = record { labels = with_position ls.labels i p; contents = ls.contents }

abbrev pub room : {X : Type 0} → List X → Answer
room xs = cond (nat_lt (length xs) 128) (Ok tt) (Err Full)

abbrev pub on_page : ℕ → Answer → Answer
on_page p answer = cond (is_page p) answer (Err NoPage)

abbrev pub PageAt : ℕ → Result Page EntryError → Type 0
PageAt n r = MatchResult r (λ p. (p.number ≡ n) × (is_page n ≡ true)) (λ e. (e ≡ NoPage) × (is_page n ≡ false))

abbrev pub Changes : Answer → Answer → Lists → Lists → Lists → Type 0
Changes r answer more before after = (r ≡ answer) × MatchResult r (λ _. after ≡ more) (λ _. after ≡ before)

abbrev pub AddsLabel : Answer → Lists → Label → Lists → Type 0
AddsLabel r ls l after = Changes r (room ls.labels) (with_label ls l) ls after

abbrev pub AddsNewLabel : Answer → Lists → Label → Lists → Type 0
AddsNewLabel r ls l after = Changes r (cond (is_some (place_of l.name ls.labels)) (Err Repeated) (room ls.labels)) (with_label ls l) ls after

abbrev pub AddsHeading : Answer → Lists → Position → Lists → Type 0
AddsHeading r ls p after = Changes r (room ls.contents) (with_heading ls p) ls after

abbrev pub Fills : Answer → Lists → ℕ → Position → Lists → Type 0
Fills r ls i p after = Changes r (cond (nat_lt i (length ls.labels)) (on_page p.page (Ok tt)) (Err Absent)) (put_position ls i p) ls after

abbrev pub PutsLabel : Answer → Lists → Label → Lists → Type 0
PutsLabel r ls l after = Changes r (on_page l.position.page (room ls.labels)) (with_label ls l) ls after

abbrev pub PutsHeading : Answer → Lists → Position → Lists → Type 0
PutsHeading r ls p after = Changes r (cond (nat_le 1 p.level) (on_page p.page (room ls.contents)) (Err NoHeading)) (with_heading ls p) ls after
