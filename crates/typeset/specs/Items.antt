-- A manuscript as items, one for each line. Nothing after this sees bytes of lines.
--   ItemWord       a word with its mark, if it has one, and where a fault says that it comes from
--   at_line_lem    where a word without a name comes from
--   mark_in        the mark that the parts of a word tell; a word that is not well formed has none
--   item_word      a word of a line, in a title or outside one
--   item_words     words of a line
--   Item           text, a heading with its title, contents, the end of a page, or a line that is passed over
--   item_of        a line of a kind
--   items_of       lines
--   items          a text
--   titles         the titles of the headings, in order
use Rattle.std.specs.Prelude.{◌≡◌, ℕ, Bool, true, false, cond, List, [], ◌∷◌, Some, None, Ok, Err, codes, Option, refl}
use Rattle.std.specs.Str.{bytes_eq}
use Rattle.compose.specs.declared.acts.Source.{Source}
use Rattle.faults.specs.declared.fault.Span.{Span}
use Rattle.manuscript.specs.Standing.{name_span}
use Rattle.marks.specs.Parts.{MarkedWord, Parts, parts}
use Rattle.marks.specs.declared.mark.Mark.TheVariants.{Page}
use Rattle.reader.specs.Kinds.{kind, level, line_words}
use Rattle.reader.specs.Lines.{SourceLine, lines}
use Rattle.reader.specs.Words.{SourceWord}
use Rattle.reader.specs.declared.kinds.Kind.{Kind}
use Rattle.reader.specs.declared.kinds.Kind.TheVariants.{Heading, Directive, Remark, Text}

pub record ItemWord : Type 0 where
  pub bytes : List ℕ
  pub mark : Option MarkedWord
  pub source : Source

abbrev pub at_line_lem : ℕ → Source
at_line_lem n = record { line = n; name = None }

abbrev pub mark_in : Parts → Option MarkedWord
mark_in (Ok m) = m
mark_in (Err e) = None

abbrev pub span_in : SourceLine → SourceWord → Option MarkedWord → Option Span
span_in l w None = None
span_in l w (Some m) = Some (name_span l w m)

abbrev pub word_with : SourceLine → SourceWord → Option MarkedWord → ItemWord
word_with l w m = record { bytes = w.bytes; mark = m; source = record { line = l.number; name = span_in l w m } }

abbrev pub item_word : Bool → SourceLine → SourceWord → ItemWord
item_word title l w = word_with l w (mark_in (parts title w.bytes))

abbrev pub item_words : Bool → SourceLine → List SourceWord → List ItemWord
item_words title l [] = []
item_words title l (w ∷ ws) = item_word title l w ∷ item_words title l ws

pub data Item : Type 0 where
  -- the words of a line of text; a line without one ends the paragraph
  text : List ItemWord → Item
  -- its line, its level and its title
  heading : ℕ → ℕ → List ItemWord → Item
  -- the line that asks for contents
  contents : ℕ → Item
  page_break : Item
  passed_over : Item

abbrev pub title_words : SourceLine → List ItemWord
title_words l = item_words true l (line_words l.bytes)

abbrev pub item_of : Kind → SourceLine → Item
item_of Heading l = heading l.number (level l.bytes) (title_words l)
item_of Directive l =
    cond (bytes_eq l.bytes (codes "!contents")) (contents l.number)
    (cond (bytes_eq l.bytes (codes "!page")) page_break passed_over)
item_of Remark l = passed_over
item_of Text l = text (item_words false l (line_words l.bytes))

abbrev pub line_item : SourceLine → Item
line_item l = item_of (kind l.bytes) l

abbrev pub items_of : List SourceLine → List Item
items_of [] = []
items_of (l ∷ ls) = line_item l ∷ items_of ls

abbrev pub items : List ℕ → List Item
items t = items_of (lines t)

abbrev pub with_title : Item → List (List ItemWord) → List (List ItemWord)
with_title (text ws) ts = ts
with_title (heading n d ws) ts = ws ∷ ts
with_title (contents n) ts = ts
with_title page_break ts = ts
with_title passed_over ts = ts

abbrev pub titles : List Item → List (List ItemWord)
titles [] = []
titles (i ∷ is) = with_title i (titles is)

abbrev bare : ℕ → List ℕ → ItemWord
bare n w = record { bytes = w; mark = None; source = at_line_lem n }

book : items (codes "!contents\n% x\n# Pump\n!page\nsee {p:v}.\n\n") ≡ contents 1 ∷ passed_over ∷ heading 3 1 (bare 3 (codes "Pump") ∷ []) ∷ page_break ∷ text (bare 5 (codes "see") ∷ record { bytes = codes "{p:v}."; mark = Some (record { mark = Page; prefix = []; name = codes "v"; suffix = codes "." }); source = record { line = 5; name = Some (record { offset = 34; length = 1 }) } } ∷ []) ∷ text [] ∷ []
book = refl
