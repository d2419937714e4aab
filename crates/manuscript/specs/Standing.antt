-- The marks that stand in a text, and the references that no label answers.
--   Marking       a mark where it stands: its kind, its name, its line, and where the name stands in the text
--   name_span     where the name of a marked word stands
--   marking       the mark of a word that has one
--   word_marks    the marks of words of a line
--   line_marks    the marks of a line
--   text_marks    the marks of lines
--   marks         the marks of a text
--   among         whether a name is one of some names
--   unmet         whether a mark is a reference to none of some labels
--   dangling      the fault of the first such reference
use Rattle.std.specs.Prelude.{◌≡◌, ℕ, ◌+◌, Bool, true, false, cond, not, ◌||◌, List, [], ◌∷◌, ◌++◌, length, Some, None, Ok, Err, codes, Option, refl}
use Rattle.std.specs.Str.{bytes_eq}
use Rattle.faults.specs.Faults.{about_name_lem}
use Rattle.faults.specs.declared.cause.Cause.TheVariants.{ReferenceWithoutLabel}
use Rattle.faults.specs.declared.fault.Fault.{Fault}
use Rattle.faults.specs.declared.fault.Span.{Span}
use Rattle.marks.specs.Parts.{MarkedWord, Parts, parts}
use Rattle.marks.specs.declared.mark.Mark.{Mark}
use Rattle.marks.specs.declared.mark.Mark.TheVariants.{Label, Page, Number}
use Rattle.reader.specs.Kinds.{kind, line_words}
use Rattle.reader.specs.Lines.{SourceLine, lines}
use Rattle.reader.specs.Words.{SourceWord}
use Rattle.reader.specs.declared.kinds.Kind.{Kind}
use Rattle.reader.specs.declared.kinds.Kind.TheVariants.{Heading, Directive, Remark, Text}

pub record Marking : Type 0 where
  pub mark : Mark
  pub name : List ℕ
  pub line : ℕ
  pub span : Span

abbrev pub name_span : SourceLine → SourceWord → MarkedWord → Span
name_span l w m = record { offset = l.offset + w.offset + length m.prefix + 3; length = length m.name }

abbrev pub marking : SourceLine → SourceWord → Parts → List Marking
marking l w (Ok None) = []
marking l w (Ok (Some m)) = record { mark = m.mark; name = m.name; line = l.number; span = name_span l w m } ∷ []
marking l w (Err e) = []

abbrev pub word_marks : Bool → SourceLine → List SourceWord → List Marking
word_marks title l [] = []
word_marks title l (w ∷ ws) = marking l w (parts title w.bytes) ++ word_marks title l ws

abbrev pub heading : Kind → Bool
heading Heading = true
heading Directive = false
heading Remark = false
heading Text = false

abbrev pub is_title : List ℕ → Bool
is_title l = heading (kind l)

abbrev pub line_marks : SourceLine → List Marking
line_marks l = word_marks (is_title l.bytes) l (line_words l.bytes)

abbrev pub text_marks : List SourceLine → List Marking
text_marks [] = []
text_marks (l ∷ ls) = line_marks l ++ text_marks ls

abbrev pub marks : List ℕ → List Marking
marks t = text_marks (lines t)

abbrev pub among : List ℕ → List (List ℕ) → Bool
among n [] = false
among n (m ∷ ms) = bytes_eq m n || among n ms

abbrev pub unmet_by : Mark → Bool → Bool
unmet_by Label known = false
unmet_by Page known = not known
unmet_by Number known = not known

abbrev pub unmet : List (List ℕ) → Marking → Bool
unmet labels m = unmet_by m.mark (among m.name labels)

abbrev pub dangling : List (List ℕ) → List Marking → Option Fault
dangling labels [] = None
dangling labels (m ∷ ms) = cond (unmet labels m) (Some (about_name_lem ReferenceWithoutLabel m.line m.span)) (dangling labels ms)

two : marks (codes "# Pump{l:v}\n% {l:w}\nsee {p:v}.") ≡ record { mark = Label; name = codes "v"; line = 1; span = record { offset = 9; length = 1 } } ∷ record { mark = Page; name = codes "v"; line = 3; span = record { offset = 27; length = 1 } } ∷ []
two = refl
