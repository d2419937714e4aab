-- The script of a text that keeps the rules fits into a record, and its labels have names apart.
use Rattle.std.proofs.Common.{◌≡◌, ℕ, ◌≤◌, List, length, sym, ap, ◌∙◌, subst, arith}
use Rattle.std.specs.List.{AllByRecursion}
use Rattle.compose.specs.Acts.{Number}
use Rattle.findings.specs.Fitting.{label_names, apart}
use Rattle.manuscript.specs.Standing.{marks}
use Rattle.manuscript.proofs.Completing.{labelled_once, labels_count}
use Rattle.manuscript.proofs.Labelling.{labels_of}
use Rattle.numerals.specs.declared.style.NumeralStyle.{NumeralStyle}
use Rattle.reader.specs.Lines.{lines}
use Rattle.record.specs.Lists.{Lists}
use Rattle.passes.specs.Fit.{ScriptsFit, ScriptsApart}
use Rattle.typeset.specs.Items.{items, titles}
use Rattle.typeset.specs.Numbering.{before_any}
use Rattle.typeset.specs.Script.{script}
use Rattle.typeset.specs.Shown.{shown}
use Rattle.passes.proofs.Amounts.{lines_few, lines_short, titles_few, titles_brief, told_wording}
use Rattle.passes.proofs.Headings.{told_titles, told_titling, told_levels}
use Rattle.passes.proofs.Names.{told_names, once_apart}

-- the labels of a script are those of its text, whatever record it is told with
pub script_names : (s : NumeralStyle) (old : Lists) (t : List ℕ) → label_names (script s old (items t)) ≡ labels_of (marks t)
script_names s old t = told_names (shown s old) (titles (items t)) (lines t) before_any

-- no two labels of a script have one name
pub scripts_apart : ScriptsApart
scripts_apart s old t k = ap apart (script_names s old t) ∙ once_apart (labels_of (marks t)) (labelled_once t k.labelled)

-- a script has room in a record
pub scripts_fit : ScriptsFit
scripts_fit s old t k =
    let sh = shown s old in
    let ts = titles (items t) in
    let short = lines_short 0 1 0 t k.short in
    let many : length (lines t) ≤ 60000 = omega (arith, k.short, lines_few 0 1 0 t) in
    let numbers = told_titles sh ts (items t) before_any in
    let few : length ts ≤ 60000 = omega (arith, titles_few (lines t)) in
    record {
      labels = omega (arith, k.few_labels, labels_count (marks t), ap length (script_names s old t));
      headings = omega (arith, k.few_headings, ap length numbers, told_titling (lines t) before_any);
      levels = subst (AllByRecursion (λ (k : Number). 1 ≤ k.level)) (sym numbers) (told_levels (lines t) before_any);
      words = omega (arith, told_wording sh ts few (titles_brief (lines t) short) (lines t) before_any short);
    }
