-- The rules that a manuscript keeps, apart from the order in which they are tested.
--   count         how many elements pass a test
--   asked         a line is what its kind asks: a heading or one of the two directives
--   words_kept    every word is well formed
--   line_kept     a line has only allowed bytes, is what its kind asks, and its words are well formed
--   lines_kept    every line is so
--   headings      how many lines are headings
--   wanted        how many lines ask for contents
--   labels        how many marks are labels
--   Kept          a text keeps all rules
--   Counted       counts are those of a text
--   Accepts       the check accepts exactly the texts that keep the rules, and counts their lines, labels and headings
use Rattle.std.specs.Prelude.{◌≡◌, ℕ, ◌+◌, ◌≤◌, Bool, true, false, cond, ◌&&◌, ◌||◌, List, [], ◌∷◌, length, is_ok, Ok, Err, codes, Result}
use Rattle.std.specs.Str.{bytes_eq}
use Rattle.faults.specs.declared.fault.Fault.{Fault}
use Rattle.marks.specs.Parts.{parts}
use Rattle.reader.specs.Kinds.{kind, line_words}
use Rattle.reader.specs.Lines.{SourceLine, lines}
use Rattle.reader.specs.Words.{SourceWord}
use Rattle.reader.specs.declared.kinds.Kind.{Kind}
use Rattle.reader.specs.declared.kinds.Kind.TheVariants.{Heading, Directive, Remark, Text}
use Rattle.runs.specs.Run.{all}
use Rattle.manuscript.specs.Labelled.{is_label, Labelled}
use Rattle.manuscript.specs.Scanning.{allowed, titled}
use Rattle.manuscript.specs.Standing.{Marking, marks, is_title}
use Rattle.manuscript.specs.declared.counts.Counts.{Counts}

abbrev pub count : {X : Type 0} → (X → Bool) → List X → ℕ
count p [] = 0
count p (x ∷ xs) = cond (p x) 1 0 + count p xs

abbrev pub asked : Kind → List ℕ → Bool
asked Heading l = titled l
asked Directive l = bytes_eq l (codes "!contents") || bytes_eq l (codes "!page")
asked Remark l = true
asked Text l = true

abbrev pub words_kept : Bool → List SourceWord → Bool
words_kept title [] = true
words_kept title (w ∷ ws) = is_ok (parts title w.bytes) && words_kept title ws

abbrev pub line_kept : SourceLine → Bool
line_kept l = all allowed l.bytes && (asked (kind l.bytes) l.bytes && words_kept (is_title l.bytes) (line_words l.bytes))

abbrev pub lines_kept : List SourceLine → Bool
lines_kept [] = true
lines_kept (l ∷ ls) = line_kept l && lines_kept ls

abbrev pub headings : List SourceLine → ℕ
headings ls = count (λ l. is_title l.bytes) ls

abbrev pub wants : Kind → List ℕ → Bool
wants Heading l = false
wants Directive l = bytes_eq l (codes "!contents")
wants Remark l = false
wants Text l = false

abbrev pub wanted : List SourceLine → ℕ
wanted ls = count (λ l. wants (kind l.bytes) l.bytes) ls

abbrev pub labels : List Marking → ℕ
labels ms = count (λ m. is_label m.mark) ms

pub record Kept (t : List ℕ) : Type 0 where
  pub short : length t ≤ 60000
  pub formed : lines_kept (lines t) ≡ true
  pub few_headings : headings (lines t) ≤ 128
  pub few_contents : wanted (lines t) ≤ 1
  pub few_labels : labels (marks t) ≤ 128
  pub labelled : Labelled t

pub record Counted (t : List ℕ) (c : Counts) : Type 0 where
  pub lines_are : c.lines ≡ length (lines t)
  pub labels_are : c.labels ≡ labels (marks t)
  pub headings_are : c.headings ≡ headings (lines t)

abbrev pub Accepts : List ℕ → Result Counts Fault → Type 0
Accepts t (Ok c) = Kept t × Counted t c
Accepts t (Err f) = Kept t → ⊥
