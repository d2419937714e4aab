-- Places on paper, and their order.
--   Spot            where something stands: on a page, or at a line and a column of a page too
--   page_of         the page of a spot
--   after           the spot right after a word of n bytes
--   ◌≼◌             at or before, in reading order; where there are no lines, by pages
--   ◌≺◌             strictly before, in reading order
--   Page            a page number, 1 to 999
--   nearest_page    the page number that is nearest to a number
--   Paper           what the settings fix of a page: nothing, or its height and width
--   Sized           a height is 1 to 90 lines, a width 20 to 120 columns
--   High, Wide      so many lines to a page, so many columns to a line
--   Kind            a spot has line and column where a page has lines, and no other has
--   Inside          a word of n bytes lies on one line inside the page
--   Stands          a spot has this line and this column
use Rattle.std.specs.Prelude.{◌≡◌, ℕ, ◌+◌, ◌<◌, ◌≤◌, min, max, ◌⊎◌, refl}

pub data Spot : Type 0 where
  on : ℕ → Spot
  at : ℕ → ℕ → ℕ → Spot

abbrev pub page_of : Spot → ℕ
page_of (on p) = p
page_of (at p l c) = p

abbrev pub after : ℕ → Spot → Spot
after n (on p) = on p
after n (at p l c) = at p l (c + n)

infix 40 ◌≼◌
infix 40 ◌≺◌
abbrev pub ◌≼◌ : Spot → Spot → Type 0
on p ≼ on q = p ≤ q
on p ≼ at q l c = p ≤ q
at p l c ≼ on q = p ≤ q
at p l c ≼ at q m d = (p < q) ⊎ ((p ≡ q) × ((l < m) ⊎ ((l ≡ m) × (c ≤ d))))

abbrev pub ◌≺◌ : Spot → Spot → Type 0
on p ≺ on q = p < q
on p ≺ at q l c = p < q
at p l c ≺ on q = p < q
at p l c ≺ at q m d = (p < q) ⊎ ((p ≡ q) × ((l < m) ⊎ ((l ≡ m) × (c < d))))

abbrev pub Page : ℕ → Type 0
Page p = (1 ≤ p) × (p ≤ 999)

abbrev pub nearest_page : ℕ → ℕ
nearest_page p = max 1 (min p 999)

pub data Paper : Type 0 where
  paged : Paper
  printed : ℕ → ℕ → Paper

abbrev pub Sized : Paper → Type 0
Sized paged = Unit {0}
Sized (printed h w) = ((1 ≤ h) × (h ≤ 90)) × ((20 ≤ w) × (w ≤ 120))

abbrev pub High : Paper → ℕ → Type 0
High paged r = ⊥
High (printed h w) r = r ≡ h

abbrev pub Wide : Paper → ℕ → Type 0
Wide paged r = ⊥
Wide (printed h w) r = r ≡ w

abbrev pub Kind : Paper → Spot → Type 0
Kind paged (on p) = Page p
Kind paged (at p l c) = ⊥
Kind (printed h w) (on p) = ⊥
Kind (printed h w) (at p l c) = Page p

abbrev pub Inside : Paper → ℕ → Spot → Type 0
Inside paged n (on p) = Unit {0}
Inside paged n (at p l c) = ⊥
Inside (printed h w) n (on p) = ⊥
Inside (printed h w) n (at p l c) = ((1 ≤ l) × (l ≤ h)) × ((1 ≤ c) × (c + n ≤ w + 1))

abbrev pub Stands : Spot → ℕ → ℕ → Type 0
Stands (on p) l c = ⊥
Stands (at p m d) l c = (l ≡ m) × (c ≡ d)

past_the_last : nearest_page 1000 ≡ 999
past_the_last = refl
