-- The law that every pass relies on: what a text that keeps the rules asks for fits into a record.
--   ScriptsFit      its script has room in a record
--   ScriptsApart    no two labels of its script have one name
use Rattle.std.specs.Prelude.{◌≡◌, ℕ, true, List}
use Rattle.findings.specs.Fitting.{Fits, label_names, apart}
use Rattle.manuscript.specs.Rules.{Kept}
use Rattle.numerals.specs.declared.style.NumeralStyle.{NumeralStyle}
use Rattle.record.specs.Lists.{Lists}
use Rattle.typeset.specs.Items.{items}
use Rattle.typeset.specs.Script.{script}

abbrev pub ScriptsFit : Type 0
ScriptsFit = (s : NumeralStyle) (old : Lists) (t : List ℕ) → Kept t → Fits (script s old (items t))

abbrev pub ScriptsApart : Type 0
ScriptsApart = (s : NumeralStyle) (old : Lists) (t : List ℕ) → Kept t → apart (label_names (script s old (items t))) ≡ true
