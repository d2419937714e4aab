-- What a layout means, and the laws that it keeps.
--   Outcome    what comes of setting a word: a refusal, or a spot and the new place
--   Meaning    the settings and the place of a layout, and what each call makes of them
--   Put        a word is put at or after the front, inside the page, and the front is then past its end
--   Proper     an outcome puts its word so, and its place is sound
--   Onward     the front does not go back from one place to another, which is sound
--   Lawful     the laws of layouts
-- That the opening place depends on the settings alone, and an outcome on settings, place and bytes alone,
-- is said by the types of `opening` and `sets`; that no call changes the settings, by the calls' contracts.
use Rattle.std.specs.Prelude.{◌≡◌, ℕ, ◌<◌, ◌⊎◌, List, length}
use Rattle.layout.specs.Spots.{Spot, Paper, after, ◌≼◌, Sized, Kind, Inside}
use Rattle.layout.specs.declared.refusal.Refusal.{Refusal}
use Rattle.layout.specs.declared.refusal.Refusal.TheVariants.{WordTooWide}

pub data Outcome (Place : Type 0) : Type 0 where
  refused : Refusal → Outcome Place
  placed : Spot → Place → Outcome Place

pub record Meaning (Self Mark : Type 0) : Type 1 where
  pub Settings : Type 0
  pub Place : Type 0
  pub settings : Self → Settings
  pub place : Self → Place
  pub letter : ℕ
  -- what the settings fix of a page, and where a mark stands on it
  pub paper : Settings → Paper
  pub spot : Settings → Mark → Spot
  -- where the next word stands at the earliest
  pub front : Settings → Place → Spot
  -- what the calls make of a place
  pub opening : Settings → Place
  pub sets : Settings → Place → List ℕ → Outcome Place
  pub paragraph_end : Settings → Place → Place
  pub page_end : Settings → Place → Place

-- a word of n bytes at the spot t, where the front goes from f to g
pub record Put (paper : Paper) (n : ℕ) (f t g : Spot) : Type 0 where
  pub kind : Kind paper t
  pub inside : Inside paper n t
  pub ahead : f ≼ t
  pub past : after n t ≼ g

abbrev pub Proper : {Place : Type 0} → (Place → Type 0) → (Place → Spot) → Paper → ℕ → Spot → Outcome Place → Type 0
Proper Sound front paper n f (refused e) = Unit {0}
Proper Sound front paper n f (placed t q) = Put paper n f t (front q) × Sound q

abbrev pub Onward : {Place : Type 0} → (Place → Type 0) → (Place → Spot) → Place → Place → Type 0
Onward Sound front q r = (front q ≼ front r) × Sound r

pub record Lawful {Self Mark : Type 0} (m : Meaning Self Mark) : Type 1 where
  -- height and width are in range
  pub sized : (s : m.Settings) → Sized (m.paper s)
  -- any mark and any place has a page of 1 to 999, and line and column where a page has lines
  pub marked : (s : m.Settings) (k : Mark) → Kind (m.paper s) (m.spot s k)
  pub fronted : (s : m.Settings) (q : m.Place) → Kind (m.paper s) (m.front s q)
  -- no bytes, or more than 72, are refused as too wide
  pub too_long : (s : m.Settings) (q : m.Place) (w : List ℕ) → (length w ≡ 0) ⊎ (72 < length w) → m.sets s q w ≡ refused WordTooWide
  -- the places that can be come to: what every value has, rewinding gives and each call keeps
  pub Sound : m.Settings → m.Place → Type 0
  pub held : (x : Self) → Sound (m.settings x) (m.place x)
  pub opens : (s : m.Settings) → Sound s (m.opening s)
  -- a word is put at or after the front, on one line inside the page, and the front moves past its end
  pub puts : (s : m.Settings) (q : m.Place) (w : List ℕ) → Sound s q → Proper (Sound s) (m.front s) (m.paper s) (length w) (m.front s q) (m.sets s q w)
  -- no end moves the front back
  pub ends_paragraph : (s : m.Settings) (q : m.Place) → Sound s q → Onward (Sound s) (m.front s) q (m.paragraph_end s q)
  pub ends_page : (s : m.Settings) (q : m.Place) → Sound s q → Onward (Sound s) (m.front s) q (m.page_end s q)
