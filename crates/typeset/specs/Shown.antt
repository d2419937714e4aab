-- What the words of a pass show. What is shown stands apart from the record that shows it.
--   unknown        what stands for a label that a record lacks
--   ContentsLine   the number and the page numeral that a line of the contents shows
--   Shown          what a page reference and a number reference to a name show, and the lines of the contents
--   position_at    the position of the i-th label
--   looked_up      the position at the place that a lookup answers
--   page_shown     the page numeral of a position, if there is one
--   number_shown   its number, if there is one
--   contents_line  the line of an entry
--   shown          what a record shows in a style of numerals
--   mark_shows     what stands in the place of a mark
--   printed        the bytes that a word prints
use Rattle.std.specs.Prelude.{ℕ, zero, suc, List, [], ◌∷◌, ◌++◌, map, Some, None, Option}
use Rattle.marks.specs.Parts.{MarkedWord}
use Rattle.marks.specs.declared.mark.Mark.{Mark}
use Rattle.marks.specs.declared.mark.Mark.TheVariants.{Label, Page, Number}
use Rattle.numerals.specs.Heading.{number_text}
use Rattle.numerals.specs.Numeral.{numeral}
use Rattle.numerals.specs.declared.style.NumeralStyle.{NumeralStyle}
use Rattle.record.specs.Labels.{place_of}
use Rattle.record.specs.Lists.{Lists}
use Rattle.record.specs.Positions.{Position}
use Rattle.record.specs.Positions as positions
use Rattle.typeset.specs.Items.{ItemWord}

abbrev pub unknown : List ℕ
unknown = 63 ∷ 63 ∷ []

pub record ContentsLine : Type 0 where
  pub number : List ℕ
  pub page : List ℕ

pub record Shown : Type 0 where
  pub page : List ℕ → List ℕ
  pub number : List ℕ → List ℕ
  pub contents : List ContentsLine

abbrev pub position_at : List positions.Label → ℕ → Option Position
position_at [] i = None
position_at (l ∷ ls) zero = Some l.position
position_at (l ∷ ls) (suc i) = position_at ls i

abbrev pub looked_up : List positions.Label → Option ℕ → Option Position
looked_up ls None = None
looked_up ls (Some i) = position_at ls i

abbrev pub page_shown : NumeralStyle → Option Position → List ℕ
page_shown s None = unknown
page_shown s (Some p) = numeral s p.page

abbrev pub number_shown : Option Position → List ℕ
number_shown None = unknown
number_shown (Some p) = number_text p.level p.counters

abbrev pub contents_line : NumeralStyle → Position → ContentsLine
contents_line s p = record { number = number_text p.level p.counters; page = numeral s p.page }

abbrev pub shown : NumeralStyle → Lists → Shown
shown s old = record {
  page = λ n. page_shown s (looked_up old.labels (place_of n old.labels));
  number = λ n. number_shown (looked_up old.labels (place_of n old.labels));
  contents = map (contents_line s) old.contents;
}

abbrev pub mark_shows : Shown → Mark → List ℕ → List ℕ
mark_shows sh Label n = []
mark_shows sh Page n = sh.page n
mark_shows sh Number n = sh.number n

abbrev pub printed_with : Shown → List ℕ → Option MarkedWord → List ℕ
printed_with sh bytes None = bytes
printed_with sh bytes (Some m) = m.prefix ++ (mark_shows sh m.mark m.name ++ m.suffix)

abbrev pub printed : Shown → ItemWord → List ℕ
printed sh w = printed_with sh w.bytes w.mark
