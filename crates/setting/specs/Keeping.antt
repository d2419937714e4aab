-- What a keeper keeps of the words that were set.
--   Keeping    what a keeper means
--   Hears      a keeper hears of a word on a page
use Rattle.std.specs.Prelude.{◌≡◌, List, ℕ}
use Rattle.std.specs.Borrow.{GName}
use Rattle.compose.specs.Acts.{Part}

pub record Keeping (Self : Type 0) : Type 1 where
  -- what no word changes of a keeper: its settings, and the ghost names of the references that it holds
  pub Fixed : Type 0
  pub fixed : Self → Fixed
  pub names : Self → List GName
  -- what it keeps, and what a word on a page adds to that
  pub Kept : Type 0
  pub kept : Self → Kept
  pub hears : Fixed → Kept → List ℕ → Part → ℕ → Kept

pub record Hears {Self : Type 0} (k : Keeping Self) (x : Self) (word : List ℕ) (part : Part) (page : ℕ) (y : Self) : Type 0 where
  pub kept : k.kept y ≡ k.hears (k.fixed x) (k.kept x) word part page
  pub fixed : k.fixed y ≡ k.fixed x
  pub names : k.names y ≡ k.names x
