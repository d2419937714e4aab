-- What the calls of the walk answer.
--   answered        an answer without what it holds
--   entry_lines     the lines of the contents of entries
--   titles_left     the titles that a reader has yet to come to
--   NextHeading     the next heading that a reader comes to: the titles that are left begin with its title
use Rattle.std.specs.Prelude.{◌≡◌, ℕ, ◌+◌, ◌≤◌, List, [], ◌∷◌, map, length, Some, None, Ok, Err, Option, Result}
use Rattle.faults.specs.declared.fault.Fault.{Fault}
use Rattle.numerals.specs.declared.style.NumeralStyle.{NumeralStyle}
use Rattle.reader.specs.Reading.{left, line_of}
use Rattle.reader.specs.declared.place.Line.{Line}
use Rattle.reader.specs.declared.place.Place.{Place}
use Rattle.record.specs.Meaning.{position_of}
use Rattle.record.specs.declared.entry.contents.ContentsEntry.{ContentsEntry}
use Rattle.typeset.specs.Items.{ItemWord, title_words, items_of, titles}
use Rattle.typeset.specs.Shown.{ContentsLine, contents_line}

abbrev pub answered : {X : Type 0} → Result X Fault → Result (Unit {0}) Fault
answered (Ok x) = Ok tt
answered (Err f) = Err f

abbrev pub entry_lines : NumeralStyle → List ContentsEntry → List ContentsLine
entry_lines s es = map (contents_line s) (map position_of es)

abbrev pub titles_left : List ℕ → Place → List (List ItemWord)
titles_left t p = titles (items_of (left t p))

abbrev pub NextHeading : List ℕ → Place → Option Line → Place → Type 0
NextHeading t p None q = titles_left t p ≡ []
NextHeading t p (Some l) q =
    (titles_left t p ≡ title_words (line_of l) ∷ titles_left t q) × (l.offset + length l.bytes.now ≤ length t)
