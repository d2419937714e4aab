-- The answer of taking a word apart, as a value.
--   value_of    a marked word that was handed out
--   told        an answer
use Rattle.std.specs.Prelude.{Some, None, Ok, Err, Option, Result}
use Rattle.faults.specs.declared.cause.Cause.{Cause}
use Rattle.marks.specs.declared.mark.Marked.{Marked}
use Rattle.marks.specs.Parts.{MarkedWord, Parts}

abbrev pub value_of : Marked → MarkedWord
value_of m = record { mark = m.mark; prefix = m.prefix.now; name = m.name.now; suffix = m.suffix.now }

abbrev pub told : Result (Option Marked) Cause → Parts
told (Ok None) = Ok None
told (Ok (Some m)) = Ok (Some (value_of m))
told (Err e) = Err e
