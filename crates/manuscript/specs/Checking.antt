-- What checking and binding answer.
--   resolved    the counts, or the first reference without a label
--   checked     the counts of a manuscript, or the first refusal
--   bound       the bytes of a manuscript, or none where checking refuses them
use Rattle.std.specs.Prelude.{◌≡◌, ℕ, cond, List, [], length, is_ok, Some, None, Ok, Err, codes, Option, Result, nat_lt, refl}
use Rattle.faults.specs.Faults.{plain, in_line_lem, about_name_lem}
use Rattle.faults.specs.declared.cause.Cause.TheVariants.{ManuscriptTooLong, MarkMalformed, ReferenceWithoutLabel}
use Rattle.faults.specs.declared.fault.Fault.{Fault}
use Rattle.reader.specs.Lines.{lines}
use Rattle.manuscript.specs.Standing.{marks, dangling}
use Rattle.manuscript.specs.Scanning.{Seen, nothing, then, scan_lines}
use Rattle.manuscript.specs.declared.counts.Counts.{Counts}

abbrev pub unless : Option Fault → Counts → Result Counts Fault
unless None c = Ok c
unless (Some f) c = Err f

abbrev pub resolved : List ℕ → Seen → Result Counts Fault
resolved t s = unless (dangling s.labels (marks t)) (record { lines = length (lines t); labels = length s.labels; headings = s.headings })

abbrev pub checked : List ℕ → Result Counts Fault
checked t = cond (nat_lt 60000 (length t)) (Err (plain ManuscriptTooLong)) (then (scan_lines (lines t) nothing) (λ s. resolved t s))

abbrev pub bound : List ℕ → List ℕ
bound t = cond (is_ok (checked t)) t []

book : checked (codes "# Pump{l:v}\n!contents\nsee {p:v}.\n") ≡ Ok (record { lines = 3; labels = 1; headings = 1 })
book = refl

-- x{p:q} refers to a label that is not there, and {l:a} is bare
dangles : checked (codes "x{p:q}") ≡ Err (about_name_lem ReferenceWithoutLabel 1 (record { offset = 4; length = 1 }))
dangles = refl

bare : checked (codes "a\n{l:a}") ≡ Err (in_line_lem MarkMalformed 2)
bare = refl
