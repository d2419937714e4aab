-- What entries mean: the plain values of their parts.
--   placed         a heading's number on a page
--   label_of       the plain value of a label entry
--   position_of    the plain value of a contents entry
use Rattle.std.specs.Prelude.{ℕ}
use Rattle.numerals.specs.declared.heading.HeadingNumber.{HeadingNumber}
use Rattle.record.specs.Naming.{name_bytes}
use Rattle.record.specs.Positions.{Label, Position}
use Rattle.record.specs.declared.entry.label.LabelEntry.{LabelEntry}
use Rattle.record.specs.declared.entry.contents.ContentsEntry.{ContentsEntry}

abbrev pub placed : HeadingNumber → ℕ → Position
placed n p = record { level = n.level; counters = n.counters; page = p }

abbrev pub label_of : LabelEntry → Label
label_of e = record { name = name_bytes e.name; position = placed e.number e.page.number }

abbrev pub position_of : ContentsEntry → Position
position_of e = placed e.number e.page.number
