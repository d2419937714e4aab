-- The tests of a manuscript, line by line and word by word, up to the first refusal.
--   Seen          what the lines so far hold: headings, whether contents are wanted, and the labels' names
--   then          one step after another, up to the first refusal
--   defined       a label more
--   noted         a word more, by its parts
--   scan_words    the words of a line
--   allowed       a byte that a line may have
--   titled        whether a line that begins with '#' is a heading
--   entered       what the kind of a line asks of it before its words
--   scan_line     a line
--   scan_lines    lines
use Rattle.std.specs.Prelude.{ℕ, ◌+◌, Bool, true, false, cond, ◌&&◌, List, [], ◌∷◌, ◌++◌, length, Some, None, Ok, Err, codes, Result, ◌==◌, nat_le, nat_lt, slice_index}
use Rattle.std.specs.Str.{bytes_eq}
use Rattle.faults.specs.Faults.{in_line_lem, about_name_lem}
use Rattle.faults.specs.declared.cause.Cause.TheVariants.{ByteNotAllowed, HeadingMalformed, DirectiveUnknown, SecondContents, LabelRepeated, TooManyLabels, TooManyHeadings}
use Rattle.faults.specs.declared.fault.Fault.{Fault}
use Rattle.faults.specs.declared.fault.Span.{Span}
use Rattle.marks.specs.Parts.{Parts, parts}
use Rattle.marks.specs.declared.mark.Mark.{Mark}
use Rattle.marks.specs.declared.mark.Mark.TheVariants.{Label, Page, Number}
use Rattle.reader.specs.Kinds.{kind, level, line_words}
use Rattle.reader.specs.Lines.{SourceLine}
use Rattle.reader.specs.Words.{SourceWord}
use Rattle.reader.specs.declared.kinds.Kind.{Kind}
use Rattle.reader.specs.declared.kinds.Kind.TheVariants.{Heading, Directive, Remark, Text}
use Rattle.runs.specs.Run.{all}
use Rattle.manuscript.specs.Standing.{name_span, among, is_title}

pub record Seen : Type 0 where
  pub headings : ℕ
  pub contents : Bool
  pub labels : List (List ℕ)

abbrev pub nothing : Seen
nothing = record { headings = 0; contents = false; labels = [] }

abbrev pub then : {X Y E : Type 0} → Result X E → (X → Result Y E) → Result Y E
then (Ok x) f = f x
then (Err e) f = Err e

abbrev pub defined : ℕ → Span → List ℕ → Seen → Result Seen Fault
defined n span name s =
    cond (among name s.labels) (Err (about_name_lem LabelRepeated n span))
    (cond (nat_lt (length s.labels) 128)
    (Ok (record { headings = s.headings; contents = s.contents; labels = s.labels ++ name ∷ [] }))
    (Err (about_name_lem TooManyLabels n span)))

abbrev pub marked_by : Mark → ℕ → Span → List ℕ → Seen → Result Seen Fault
marked_by Label n span name s = defined n span name s
marked_by Page n span name s = Ok s
marked_by Number n span name s = Ok s

abbrev pub noted : SourceLine → SourceWord → Parts → Seen → Result Seen Fault
noted l w (Ok None) s = Ok s
noted l w (Ok (Some m)) s = marked_by m.mark l.number (name_span l w m) m.name s
noted l w (Err e) s = Err (in_line_lem e l.number)

abbrev pub scan_words : Bool → SourceLine → List SourceWord → Seen → Result Seen Fault
scan_words title l [] s = Ok s
scan_words title l (w ∷ ws) s = then (noted l w (parts title w.bytes) s) (λ s'. scan_words title l ws s')

abbrev pub allowed : ℕ → Bool
allowed b = nat_le 32 b && nat_le b 126

abbrev pub titled : List ℕ → Bool
titled l = nat_le (level l) 3 && (slice_index l (level l) == 32 && nat_lt 0 (length (line_words l)))

abbrev pub entered : Kind → SourceLine → Seen → Result Seen Fault
entered Heading l s =
    cond (titled l.bytes)
    (cond (nat_lt s.headings 128)
    (Ok (record { headings = s.headings + 1; contents = s.contents; labels = s.labels }))
    (Err (in_line_lem TooManyHeadings l.number)))
    (Err (in_line_lem HeadingMalformed l.number))
entered Directive l s =
    cond (bytes_eq l.bytes (codes "!contents"))
    (cond s.contents (Err (in_line_lem SecondContents l.number))
    (Ok (record { headings = s.headings; contents = true; labels = s.labels })))
    (cond (bytes_eq l.bytes (codes "!page")) (Ok s) (Err (in_line_lem DirectiveUnknown l.number)))
entered Remark l s = Ok s
entered Text l s = Ok s

abbrev pub scan_line : SourceLine → Seen → Result Seen Fault
scan_line l s =
    cond (all allowed l.bytes)
    (then (entered (kind l.bytes) l s) (λ s'. scan_words (is_title l.bytes) l (line_words l.bytes) s'))
    (Err (in_line_lem ByteNotAllowed l.number))

abbrev pub scan_lines : List SourceLine → Seen → Result Seen Fault
scan_lines [] s = Ok s
scan_lines (l ∷ ls) s = then (scan_line l s) (λ s'. scan_lines ls s')
