-- Texts of words: a looked-up entry, and a name in a mark.
use Rattle.std.proofs.Common.{◌≡◌, ℕ, zero, suc, ◌<◌, true, List, [], ◌∷◌, map, length, get_or, is_ok, Some, Ok, sym, ap, arith}
use Rattle.names.specs.Name.{naming}
use Rattle.record.specs.Right.{name_ok}
use Rattle.record.specs.Meaning.{label_of}
use Rattle.record.specs.declared.entry.label.LabelEntry.{LabelEntry}
use Rattle.typeset.specs.Shown.{position_at}

pub position_there : (xs : List LabelEntry) (i : ℕ) (e : LabelEntry) → i < length xs → e ≡ get_or xs i e → position_at (map label_of xs) i ≡ Some (label_of e).position
position_there [] i e h q = let no : ⊥ = omega arith in elim no [ ]
position_there (x ∷ xs) zero e h q = ap (λ v. Some (label_of v).position) (sym q)
position_there (x ∷ xs) (suc i) e h q = position_there xs i e (omega arith) q

-- what the rule of a name has right is a name
pub right_name : (bs : List ℕ) → naming bs ≡ Ok tt → name_ok bs ≡ true
unfolding name_ok
right_name bs e = ap is_ok e
