-- What is left of a text and of a line, as the iterators have it.
--   lines_left    the lines that a reader has yet to hand out
--   NextOfText    what a reader's next line leaves
--   words_left    the words of a line that are left
--   NextOfLine    what the next word of a line leaves
use Rattle.std.specs.Prelude.{◌≡◌, List, [], ◌∷◌, drop, Some, None, Option}
use Rattle.reader.specs.declared.place.Line.{Line}
use Rattle.reader.specs.declared.place.LineWord.{LineWord}
use Rattle.reader.specs.declared.reader.Reader.{Reader}
use Rattle.reader.specs.declared.words.Words.{Words}
use Rattle.reader.specs.Lines.{SourceLine}
use Rattle.reader.specs.Words.{SourceWord, words}
use Rattle.reader.specs.Reading.{word_of, left, NextLine}

abbrev pub lines_left : Reader → List SourceLine
lines_left r = left r.text.now r.place

abbrev pub NextOfText : Reader → Option Line → Reader → Type 0
NextOfText s o t = (t.text ≡ s.text) × NextLine s.text.now s.place o t.place

abbrev pub words_left : Words → List SourceWord
words_left s = words s.at (drop s.at s.line.bytes.now)

abbrev pub NextOfLine : Words → Option LineWord → Words → Type 0
NextOfLine s None t = (words_left s ≡ []) × (t ≡ s)
NextOfLine s (Some w) t = (words_left s ≡ word_of w.word ∷ words_left t) × (w.line ≡ s.line) × (t.line ≡ s.line)
