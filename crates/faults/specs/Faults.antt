-- The shapes of a fault outside a session: pass 0, and no line and no name unless they are given.
--   line_at           the line with a number: lines count from 1, and 0 is none
--   span_at           the span with these numbers: 0 and 0 is none
--   plain             a fault of no line
--   in_line_lem       a fault of a line
--   about_name_lem    a fault of a line for a name in it
-- The numbers that stand for a fault's line and name in answers.
--   no_name           the span that stands for no name
--   line_number       the number of the line, 0 where there is none
--   name_offset       the offset of the name
--   name_length       the length of the name
use Rattle.std.specs.Prelude.{ℕ, Some, None, Option, cond, ◌&&◌, ◌==◌}
use Rattle.faults.specs.declared.cause.Cause.{Cause}
use Rattle.faults.specs.declared.fault.Fault.{Fault}
use Rattle.faults.specs.declared.fault.Span.{Span}

abbrev pub line_at : ℕ → Option ℕ
line_at n = cond (n == 0) None (Some n)

abbrev pub span_at : Span → Option Span
span_at s = cond (s.offset == 0 && s.length == 0) None (Some s)

abbrev pub about_name_lem : Cause → ℕ → Span → Fault
about_name_lem c n s = record { cause = c; line = line_at n; name = span_at s; pass = 0 }

abbrev pub in_line_lem : Cause → ℕ → Fault
in_line_lem c n = record { cause = c; line = line_at n; name = None; pass = 0 }

abbrev pub plain : Cause → Fault
plain c = record { cause = c; line = None; name = None; pass = 0 }

abbrev pub no_name : Span
no_name = record { offset = 0; length = 0 }

abbrev pub number_or_0 : Option ℕ → ℕ
number_or_0 (Some n) = n
number_or_0 None = 0

abbrev pub span_or_none : Option Span → Span
span_or_none (Some s) = s
span_or_none None = no_name

abbrev pub line_number : Fault → ℕ
line_number f = number_or_0 f.line

abbrev pub name_offset : Fault → ℕ
name_offset f = (span_or_none f.name).offset

abbrev pub name_length : Fault → ℕ
name_length f = (span_or_none f.name).length
