-- What findings keep of words.
--   Kept             the lists of a table, and a number of words
--   nothing          no entries and no words
--   kept_of          what findings hold
--   keeps_label      a label more at the end, where there is room and the page is one
--   keeps_heading    a heading more at the end, where there is room, the level is not 0 and the page is one
--   keeps            the entry of a word on a page more
--   finding          the meaning of the keeper
use Rattle.std.specs.Prelude.{◌≡◌, ℕ, ◌+◌, ◌-◌, ◌^◌, min, cond, ◌&&◌, List, [], length, nat_le, nat_lt, refl}
use Rattle.numerals.specs.Numeral.{is_page}
use Rattle.compose.specs.Acts.{Number, Part, plain, label, heading, page_reference, number_reference, contents}
use Rattle.record.specs.Lists.{Lists, no_entries, lists_of, with_label, with_heading}
use Rattle.setting.specs.Keeping.{Keeping}
use Rattle.findings.specs.Made.{position_at, label_at}
use Rattle.findings.specs.declared.state.Findings.{Findings}

pub record Kept : Type 0 where
  pub lists : Lists
  pub words : ℕ

abbrev pub nothing : Kept
nothing = record { lists = no_entries; words = 0 }

abbrev pub kept_of : Findings → Kept
kept_of x = record { lists = lists_of x.table; words = x.words }

abbrev pub keeps_label : Lists → List ℕ → Number → ℕ → Lists
keeps_label ls n k p = cond (nat_lt (length ls.labels) 128 && is_page p) (with_label ls (label_at n k p)) ls

abbrev pub keeps_heading : Lists → Number → ℕ → Lists
keeps_heading ls k p = cond (nat_lt (length ls.contents) 128 && (nat_le 1 k.level && is_page p)) (with_heading ls (position_at k p)) ls

abbrev pub keeps : Lists → Part → ℕ → Lists
keeps ls plain p = ls
keeps ls (label n k) p = keeps_label ls n k p
keeps ls (heading k) p = keeps_heading ls k p
keeps ls (page_reference n b a) p = ls
keeps ls (number_reference n b a) p = ls
keeps ls contents p = ls

-- the number of words is held in 64 bits, and stops at the largest
abbrev pub finding : Keeping Findings
finding = record {
  Fixed = Unit {0};
  fixed = λ x. tt;
  names = λ x. [];
  Kept = Kept;
  kept = kept_of;
  hears = λ f x w part page. record { lists = keeps x.lists part page; words = min (x.words + 1) (2 ^ 64 - 1) };
}

no_such_page : (k : Number) → keeps no_entries (label [] k) 0 ≡ no_entries
no_such_page k = refl
