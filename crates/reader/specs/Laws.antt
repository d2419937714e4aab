-- What lines and words are, in the words of the subject.
--   unlines        lines, each with its newline
--   Rejoined       lines with their newlines are the text, of which the last line may lack its own
--   LineStands     a line has no newline, and stands in the text at its offset
--   LinesLaw       the lines of a text give it back, and each stands in it
--   LongestRun     a word is a longest run of bytes without a space in bytes of which the first has the offset i: it has a
--                  byte, none is a space, and before and behind it stands a space or nothing
--   Within         an offset lies in one of some words
--   WordsLaw       every word is a longest run, and every byte that is no space lies in a word
use Rattle.std.specs.Prelude.{◌≡◌, ℕ, suc, ◌+◌, ◌<◌, ◌≤◌, true, ◌⊎◌, List, [], ◌∷◌, ◌++◌, length, take, drop, slice_index}
use Rattle.std.specs.List.{AllByRecursion}
use Rattle.runs.specs.Run.{all}
use Rattle.reader.specs.Lines.{in_line, SourceLine, lines}
use Rattle.reader.specs.Words.{in_word, SourceWord, words}

abbrev pub unlines : List SourceLine → List ℕ
unlines [] = []
unlines (l ∷ ls) = l.bytes ++ (10 ∷ unlines ls)

abbrev pub Rejoined : List SourceLine → List ℕ → Type 0
Rejoined ls t = (unlines ls ≡ t) ⊎ (unlines ls ≡ t ++ 10 ∷ [])

abbrev pub LineStands : List ℕ → SourceLine → Type 0
LineStands t l = (all in_line l.bytes ≡ true) × (take (length l.bytes) (drop l.offset t) ≡ l.bytes)

abbrev pub LinesLaw : List ℕ → Type 0
LinesLaw t = Rejoined (lines t) t × AllByRecursion (LineStands t) (lines t)

pub record LongestRun (i : ℕ) (l : List ℕ) (w : SourceWord) : Type 0 where
  pub at : ℕ
  pub offset : w.offset ≡ i + at
  pub stands : take (length w.bytes) (drop at l) ≡ w.bytes
  pub some : 0 < length w.bytes
  pub unbroken : all in_word w.bytes ≡ true
  pub before : (k : ℕ) → suc k ≡ at → slice_index l k ≡ 32
  pub behind : at + length w.bytes < length l → slice_index l (at + length w.bytes) ≡ 32

abbrev pub Within : ℕ → List SourceWord → Type 0
Within k [] = ⊥
Within k (w ∷ ws) = ((w.offset ≤ k) × (k < w.offset + length w.bytes)) ⊎ Within k ws

abbrev pub WordsLaw : ℕ → List ℕ → Type 0
WordsLaw i l =
    AllByRecursion (LongestRun i l) (words i l)
    × ((k : ℕ) → k < length l → in_word (slice_index l k) ≡ true → Within (i + k) (words i l))
