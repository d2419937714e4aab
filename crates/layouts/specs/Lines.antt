-- What the line filler and the fixed form have in common.
--   Place            a place as three numbers: the page, the line, and how much of the line is used
--   place            a place from its three numbers
--   reach, reached   the numbers of a place of the code, and of one that is answered
--   opening          line 1 of page 1, with nothing used
--   accepted         how many bytes a word has: 1 to 72, and no more than the width that it may take
--   next_line_lem    the beginning of the next line; after the last line of page 999 there is none
--   paragraph_end    the line is used up, if anything of it is used
--   page_end         the last line of the page is used up, but nothing is done at the opening place
--   or_refused       what comes of a value, or its refusal
--   put              a word right after what is used of its line: g tells the used columns, u what is used then
--   front            right after what is used; the page is kept to 1 to 999 for any place, also one of no layout
--   Sound            page 1 to 999, a line of the page, and no more of it used than there is
use Rattle.std.specs.Prelude.{◌≡◌, ℕ, ◌+◌, ◌≤◌, cond, ◌&&◌, ◌||◌, Ok, Err, Result, ◌==◌, nat_lt, refl}
use Rattle.layout.specs.Spots.{Spot, at, Page, nearest_page}
use Rattle.layout.specs.Meaning.{Outcome, refused, placed}
use Rattle.layout.specs.declared.refusal.Refusal.{Refusal}
use Rattle.layout.specs.declared.refusal.Refusal.TheVariants.{WordTooWide, PagesUsedUp}
use Rattle.layouts.specs.declared.place.Place.{Place as PlaceOfPages}

pub record Place : Type 0 where
  pub page : ℕ
  pub line : ℕ
  pub used : ℕ

abbrev pub place : ℕ → ℕ → ℕ → Place
place p l c = record { page = p; line = l; used = c }

abbrev pub reach : PlaceOfPages → Place
reach q = place q.page.number q.line q.used

abbrev pub reached : Result PlaceOfPages Refusal → Result Place Refusal
reached (Ok q) = Ok (reach q)
reached (Err e) = Err e

abbrev pub opening : Place
opening = place 1 1 0

abbrev pub accepted : ℕ → ℕ → Result ℕ Refusal
accepted width n = cond (n == 0 || (nat_lt 72 n || nat_lt width n)) (Err WordTooWide) (Ok n)

abbrev pub next_line_lem : ℕ → Place → Result Place Refusal
next_line_lem height q =
    cond (nat_lt q.line height) (Ok (place q.page (q.line + 1) 0))
    (cond (nat_lt q.page 999) (Ok (place (q.page + 1) 1 0)) (Err PagesUsedUp))

abbrev pub paragraph_end : ℕ → Place → Place
paragraph_end full q = cond (q.used == 0) q (place q.page q.line full)

abbrev pub page_end : ℕ → ℕ → Place → Place
page_end height full q = cond (q.page == 1 && (q.line == 1 && q.used == 0)) q (place q.page height full)

abbrev pub or_refused : {A Place : Type 0} → (A → Outcome Place) → Result A Refusal → Outcome Place
or_refused f (Ok x) = f x
or_refused f (Err e) = refused e

abbrev pub put : (ℕ → ℕ) → (ℕ → ℕ) → Place → Outcome Place
put g u q = placed (at q.page q.line (g q.used + 1)) (place q.page q.line (u q.used))

abbrev pub front : (ℕ → ℕ) → Place → Spot
front g q = at (nearest_page q.page) q.line (g q.used + 1)

abbrev pub Sound : ℕ → ℕ → Place → Type 0
Sound height full q = Page q.page × ((1 ≤ q.line) × (q.line ≤ height)) × (q.used ≤ full)

overleaf : next_line_lem 2 (place 7 2 20) ≡ Ok (place 8 1 0)
overleaf = refl

after_the_last : next_line_lem 2 (place 999 2 20) ≡ Err PagesUsedUp
after_the_last = refl

opening_kept : page_end 2 20 opening ≡ opening
opening_kept = refl
