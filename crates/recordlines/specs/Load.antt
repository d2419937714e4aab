-- What loading bytes gives.
--   split       the lines that end in a newline, and what comes after the last newline
--   Outcome     the lists that were read, or the fault of the first bad line
--   read        what the lines from the n-th on give, after the entries read so far
--   loaded      what bytes give
--   Loads       what loading answers: want of memory says nothing of the bytes
use Rattle.std.specs.Prelude.{◌≡◌, ℕ, ◌+◌, cond, List, [], ◌∷◌, ◌++◌, Ok, Err, codes, Result, ◌==◌, refl}
use Rattle.faults.specs.Faults.{in_line_lem}
use Rattle.faults.specs.declared.cause.Cause.TheVariants.{FrameMalformed, FrameInvalid}
use Rattle.faults.specs.declared.fault.Fault.{Fault}
use Rattle.record.specs.Lists.{Lists, no_entries}
use Rattle.record.specs.Records.{record_lists}
use Rattle.record.specs.declared.record.Record.{Record}
use Rattle.recordlines.specs.Step.{Step, keeps, ends, wrong, line_step}
use Rattle.recordlines.specs.declared.error.LoadError.{LoadError}
use Rattle.recordlines.specs.declared.error.LoadError.TheVariants.{Refused, NoMemory}

pub record Text : Type 0 where
  pub whole : List (List ℕ)
  pub rest : List ℕ

abbrev pub longer : ℕ → List (List ℕ) → List ℕ → Text
longer b [] t = record { whole = []; rest = b ∷ t }
longer b (l ∷ ls) t = record { whole = (b ∷ l) ∷ ls; rest = t }

abbrev pub split : List ℕ → Text
split [] = record { whole = []; rest = [] }
split (b ∷ bs) = cond (b == 10) (record { whole = [] ∷ (split bs).whole; rest = (split bs).rest }) (longer b (split bs).whole (split bs).rest)

pub data Outcome : Type 0 where
  accepted : Lists → Outcome
  refused : Fault → Outcome

-- after the end frame in line n
abbrev pub closed : Lists → ℕ → List (List ℕ) → List ℕ → Outcome
closed ls n [] [] = accepted ls
closed ls n [] (b ∷ t) = refused (in_line_lem FrameMalformed (n + 1))
closed ls n (l ∷ more) t = refused (in_line_lem FrameMalformed (n + 1))

abbrev pub go_on : Step → ℕ → (Lists → Outcome) → Outcome → Outcome
go_on (keeps ls) n further end = further ls
go_on ends n further end = end
go_on (wrong c) n further end = refused (in_line_lem c n)

abbrev pub read : Lists → ℕ → List (List ℕ) → List ℕ → Outcome
read ls n [] t = refused (in_line_lem FrameMalformed n)
read ls n (l ∷ more) t = go_on (line_step ls l) n (λ now. read now (n + 1) more t) (closed ls n more t)

abbrev pub loaded : List ℕ → Outcome
loaded bs = read no_entries 1 (split bs).whole (split bs).rest

abbrev pub Loads : List ℕ → Result Record LoadError → Type 0
Loads bs (Ok r) = loaded bs ≡ accepted (record_lists r)
Loads bs (Err (Refused f)) = loaded bs ≡ refused f
Loads bs (Err NoMemory) = Unit {0}

empty : loaded (codes "450000" ++ (10 ∷ [])) ≡ accepted no_entries
unfolding line_step
empty = refl

short_end : loaded (codes "4500" ++ (10 ∷ [])) ≡ refused (in_line_lem FrameMalformed 1)
unfolding line_step
short_end = refl

wrong_count : loaded (codes "450100" ++ (10 ∷ [])) ≡ refused (in_line_lem FrameInvalid 1)
unfolding line_step
wrong_count = refl

no_newline : loaded (codes "450000") ≡ refused (in_line_lem FrameMalformed 1)
no_newline = refl

after_end : loaded (codes "450000" ++ (10 ∷ 10 ∷ [])) ≡ refused (in_line_lem FrameMalformed 2)
unfolding line_step
after_end = refl
