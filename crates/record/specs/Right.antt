-- The rule of a name as a test.
--   name_ok    the rule of a name has the bytes right
use Rattle.std.specs.Prelude.{ℕ, Bool, List, is_ok}
use Rattle.names.specs.Name.{naming}

unfoldable pub name_ok : List ℕ → Bool
name_ok bs = is_ok (naming bs)
