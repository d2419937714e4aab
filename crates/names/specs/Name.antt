-- The rule of a NAME.
--   name_byte    a letter, a digit or a hyphen
--   naming       bytes tried as a name: what is wrong with them
use Rattle.std.specs.Prelude.{◌≡◌, ℕ, Bool, cond, ◌&&◌, ◌||◌, List, [], length, Ok, Err, codes, Result, ◌==◌, nat_le, nat_lt, refl}
use Rattle.std.specs.Char.{is_ascii_digit, is_ascii_alphabetic}
use Rattle.runs.specs.Run.{all}
use Rattle.names.specs.declared.NameError.{NameError}
use Rattle.names.specs.declared.NameError.TheVariants.{WrongLength, WrongCharacter}

abbrev pub name_byte : ℕ → Bool
name_byte b = is_ascii_alphabetic b || (is_ascii_digit b || b == 45)

abbrev pub naming : List ℕ → Result (Unit {0}) NameError
naming bs = cond (nat_lt 0 (length bs) && nat_le (length bs) 16) (cond (all name_byte bs) (Ok tt) (Err WrongCharacter)) (Err WrongLength)

valve : naming (codes "valve-2") ≡ Ok tt
valve = refl

none : naming [] ≡ Err WrongLength
none = refl

seventeen : naming (codes "abcdefghijklmnop_") ≡ Err WrongLength
seventeen = refl

underscore : naming (codes "a_b") ≡ Err WrongCharacter
underscore = refl
