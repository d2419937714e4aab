-- The answers' bytes.
--   fault_line_lem     a fault: number, layer, line, offset and length of the name, pass
--   counts_line_lem    the counts of a manuscript
--   check_line_lem     the answer of a check
--   added              a line of answers with one more, after a separator if it is not the first
use Rattle.std.specs.Prelude.{◌≡◌, ℕ, List, [], ◌++◌, length, cond, ◌==◌, Ok, Err, codes, decimal, Result, refl}
use Rattle.faults.specs.Faults.{line_number, name_offset, name_length}
use Rattle.faults.specs.Numbers.{number_of, layer_of, layer_number}
use Rattle.faults.specs.declared.fault.Fault.{Fault}
use Rattle.manuscript.specs.Checking.{checked}
use Rattle.manuscript.specs.declared.counts.Counts.{Counts}

abbrev pub fault_line_lem : Fault → List ℕ
fault_line_lem f =
    codes "fault " ++ (decimal (number_of f.cause) ++ (codes " " ++ (decimal (layer_number (layer_of f.cause)) ++ (codes " " ++ (decimal (line_number f) ++ (codes " " ++ (decimal (name_offset f) ++ (codes " " ++ (decimal (name_length f) ++ (codes " " ++ decimal f.pass))))))))))

abbrev pub counts_line_lem : Counts → List ℕ
counts_line_lem c =
    codes "counts " ++ (decimal c.lines ++ (codes " " ++ (decimal c.labels ++ (codes " " ++ decimal c.headings))))

abbrev told : Result Counts Fault → List ℕ
told (Ok c) = counts_line_lem c
told (Err f) = fault_line_lem f

abbrev pub check_line_lem : List ℕ → List ℕ
check_line_lem t = told (checked t)

abbrev pub added : List ℕ → List ℕ → List ℕ → List ℕ
added line separator answer = cond (length line == 0) line (line ++ separator) ++ answer

two_answers : added (added [] (codes " ; ") (codes "locked")) (codes " ; ") (codes "absent") ≡ codes "locked ; absent"
two_answers = refl
