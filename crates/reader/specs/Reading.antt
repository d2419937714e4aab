-- What the reader's calls answer.
--   line_of      a line that the reader handed out, as a value
--   word_of      a word, as a value
--   front        the place at the front of a text
--   left         the lines that a reader of a text has yet to hand out at a place
--   Read         a line was read at a place, with the place after it
--   LineAt       the line at a place and the place after it
--   NextLine     the next line, and the reader's place then
--   WordAt       where the first word at or after a place of a line begins and ends
--   NextWord     that word
use Rattle.std.specs.Prelude.{◌≡◌, ℕ, ◌+◌, ◌-◌, ◌<◌, ◌≤◌, List, [], ◌∷◌, length, drop, Some, None, Option}
use Rattle.std.specs.List.{between}
use Rattle.reader.specs.declared.place.Place.{Place}
use Rattle.reader.specs.declared.place.Line.{Line}
use Rattle.reader.specs.declared.place.Word.{Word}
use Rattle.reader.specs.Lines.{SourceLine, lines_from}
use Rattle.reader.specs.Words.{SourceWord, words}

abbrev pub line_of : Line → SourceLine
line_of l = record { number = l.number; offset = l.offset; bytes = l.bytes.now }

abbrev pub word_of : Word → SourceWord
word_of w = record { offset = w.offset; bytes = w.bytes.now }

abbrev pub front : Place
front = record { at = 0; lines = 0 }

abbrev pub left : List ℕ → Place → List SourceLine
left t p = lines_from (p.lines + 1) p.at (drop p.at t)

-- the line is the first that is left, and ends inside the text; the place after it has what is left then
abbrev pub Read : List ℕ → Place → Line → Place → Type 0
Read t p l q =
    (left t p ≡ line_of l ∷ left t q) × (q.lines ≡ p.lines + 1) × (l.offset + length l.bytes.now ≤ length t) × (q.at ≤ length t) × (q.lines ≤ q.at)

abbrev pub LineAt : List ℕ → Place → Option (Line × Place) → Type 0
LineAt t p None = left t p ≡ []
LineAt t p (Some r) = Read t p r.0 r.1

abbrev pub NextLine : List ℕ → Place → Option Line → Place → Type 0
NextLine t p None q = (left t p ≡ []) × (q ≡ p)
NextLine t p (Some l) q = Read t p l q

abbrev pub WordAt : List ℕ → ℕ → Option (ℕ × ℕ) → Type 0
WordAt l at None = words at (drop at l) ≡ []
WordAt l at (Some r) =
    (words at (drop at l) ≡ record { offset = r.0; bytes = between r.0 r.1 l } ∷ words r.1 (drop r.1 l))
    × (at ≤ r.0) × (r.0 < r.1) × (r.1 ≤ length l) × (length (between r.0 r.1 l) ≡ r.1 - r.0)

abbrev pub NextWord : List ℕ → ℕ → Option Word → Type 0
NextWord l at None = words at (drop at l) ≡ []
NextWord l at (Some w) =
    (words at (drop at l) ≡ word_of w ∷ words (w.offset + length w.bytes.now) (drop (w.offset + length w.bytes.now) l))
    × (w.offset + length w.bytes.now ≤ length l)
    × (at < w.offset + length w.bytes.now)
