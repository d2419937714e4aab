-- Worked books, computed by the definitions of a pass.
--   text_t, contents_book   the texts
--   narrow, low             fillers of 20 columns, with one line and with two
--   column                  a form of one cell of 20 columns, with one row
--   after                   the record after so many passes from the empty record
--   pages                   the pages of its labels
--   saved                   the lines that saving it writes
--   Judged                  passes from the empty record lead to numbers that give a verdict of these numbers
--   Worked                  the books
use Rattle.std.specs.Prelude.{◌≡◌, ℕ, List, [], ◌∷◌, map, Some, None, codes, Option}
use Rattle.std.proofs.Common.{arith}
use Rattle.layout.specs.Meaning.{Meaning}
use Rattle.layouts.specs.Filling.{filling}
use Rattle.layouts.specs.Forming.{forming}
use Rattle.layouts.specs.declared.filler.state.Sheet.{Sheet}
use Rattle.layouts.specs.declared.form.state.Grid.{Grid}
use Rattle.numerals.specs.declared.style.NumeralStyle.{NumeralStyle}
use Rattle.numerals.specs.declared.style.NumeralStyle.TheVariants.{Decimal, Roman}
use Rattle.passes.specs.Next.{next_record}
use Rattle.record.specs.Lists.{Lists, no_entries}
use Rattle.recordlines.specs.Frame.{lines}
use Rattle.verdict.specs.Brent.{verdict_of}
use Rattle.verdict.specs.Runs.{run, Reached}
use Rattle.verdict.specs.Said.{Said, said, says}
use Rattle.verdict.specs.declared.outcome.Outcome.TheVariants.{Settled, Oscillates}
use Rattle.verdict.specs.declared.progress.Progress.{Progress}

abbrev pub text_t : List ℕ
text_t = codes "a\n\nb\n\n{p:t} abcdefghijklmnopq{l:t}"

abbrev pub contents_book : List ℕ
contents_book = codes "!contents\n# Pump\nOpen{l:v} it"

abbrev pub narrow : Sheet
narrow = record { width = 20; height = 1; wide = (omega arith, omega arith); high = (omega arith, omega arith) }

abbrev pub low : Sheet
low = record { width = 20; height = 2; wide = (omega arith, omega arith); high = (omega arith, omega arith) }

abbrev pub column : Grid
column = record { width = 20; cells = 1; rows = 1; wide = (omega arith, omega arith); celled = (omega arith, omega arith); high = (omega arith, omega arith); fits = (omega arith, omega arith) }

abbrev pub after : {L Mark : Type 0} (m : Meaning L Mark) → m.Settings → NumeralStyle → List ℕ → ℕ → Option Lists
after m s style text k = run (next_record m s style text) no_entries k

abbrev pub pages : Option Lists → List ℕ
pages None = []
pages (Some x) = map (λ l. l.position.page) x.labels

abbrev pub saved : Option Lists → List ℕ
saved None = []
saved (Some x) = lines x

pub record Judged {L Mark : Type 0} (m : Meaning L Mark) (s : m.Settings) (style : NumeralStyle) (text : List ℕ) (v : Said) : Type 0 where
  pub progress : Progress
  pub current : Lists
  pub anchor : Lists
  pub reached : Reached (next_record m s style text) no_entries progress current anchor
  pub verdict : said (verdict_of progress) ≡ v

pub record Worked : Type 0 where
  -- an empty manuscript settles at its first pass
  pub empty : (after filling narrow Decimal [] 1 ≡ Some no_entries) × Judged filling narrow Decimal [] (says Settled 1 1 0)
  -- the filler of one line, in decimal: the label stands on page 3, and stays there
  pub decimal : (pages (after filling narrow Decimal text_t 1) ≡ 3 ∷ []) × (pages (after filling narrow Decimal text_t 2) ≡ 3 ∷ []) × Judged filling narrow Decimal text_t (says Settled 2 1 1)
  -- in roman it swings between 3 and 4
  pub roman : (pages (after filling narrow Roman text_t 1) ≡ 3 ∷ []) × (pages (after filling narrow Roman text_t 2) ≡ 4 ∷ []) × (pages (after filling narrow Roman text_t 3) ≡ 3 ∷ []) × Judged filling narrow Roman text_t (says Oscillates 3 2 1)
  -- on the form it stands on page 4
  pub form : (pages (after forming column Roman text_t 1) ≡ 4 ∷ []) × (pages (after forming column Roman text_t 2) ≡ 4 ∷ []) × Judged forming column Roman text_t (says Settled 2 1 1)
  -- the contents book settles at pass 3, on these lines
  pub contents : (saved (after filling low Decimal contents_book 2) ≡ codes "4C0176010100000002\n43010100000001\n450101\n") × (after filling low Decimal contents_book 3 ≡ after filling low Decimal contents_book 2) × Judged filling low Decimal contents_book (says Settled 3 1 2)
