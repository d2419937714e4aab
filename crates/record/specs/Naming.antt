-- What bytes a name stands for.
--   name_bytes    the bytes of a name
--   Named         what making a name of bytes answers: the name of just these bytes, where the rule of a name has them right
use Rattle.std.specs.Prelude.{◌≡◌, ℕ, true, false, List, take, Some, None, Option}
use Rattle.record.specs.Right.{name_ok}
use Rattle.record.specs.declared.name.Name.{Name}

abbrev pub name_bytes : Name → List ℕ
name_bytes n = take n.len n.bytes

abbrev pub Named : List ℕ → Option Name → Type 0
Named bs None = name_ok bs ≡ false
Named bs (Some n) = (name_ok bs ≡ true) × (name_bytes n ≡ bs)
