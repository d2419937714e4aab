-- Entries as plain values, without the facts that their types hold.
--   Position       level, counters and page
--   Label          a name's bytes and a position
--   position_ok    a number's level and counters go together, and the page is one
--   heading_ok     a position of a heading: its level is not 0
--   label_ok       a label's name obeys the rule of a name, and its position is right
use Rattle.std.specs.Prelude.{ℕ, Bool, ◌&&◌, List, nat_le}
use Rattle.numerals.specs.Numeral.{is_page}
use Rattle.numerals.specs.Sound.{number_ok}
use Rattle.record.specs.Right.{name_ok}
use Rattle.numerals.specs.declared.counters.Counters.{Counters}

pub record Position : Type 0 where
  pub level : ℕ
  pub counters : Counters
  pub page : ℕ

pub record Label : Type 0 where
  pub name : List ℕ
  pub position : Position

abbrev pub position_ok : Position → Bool
position_ok p = number_ok p.level p.counters && is_page p.page

abbrev pub heading_ok : Position → Bool
heading_ok p = nat_le 1 p.level && position_ok p

abbrev pub label_ok : Label → Bool
label_ok l = name_ok l.name && position_ok l.position
