-- Bytes as pairs of upper-case hexadecimal digits.
--   hex_digit_lem     the digit of a value below 16
--   hex               the digits of bytes, two for each
--   digit_value       the value of a digit, if it is one
--   pair_value_lem    the byte that two digits spell
--   after             bytes in front of what the rest gives, if it gives any
--   bytes_of          the bytes that digits spell, if they are whole pairs
use Rattle.std.specs.Prelude.{◌≡◌, ℕ, ◌+◌, ◌-◌, ◌*◌, ◌/◌, ◌%◌, cond, ◌&&◌, List, [], ◌∷◌, ◌++◌, Some, None, codes, Option, nat_le, nat_lt, refl}
use Rattle.std.specs.List.{flat_map}

abbrev pub hex_digit_lem : ℕ → ℕ
hex_digit_lem d = cond (nat_lt d 10) (48 + d) (55 + d)

abbrev pub hex_pair : ℕ → List ℕ
hex_pair b = hex_digit_lem (b / 16) ∷ hex_digit_lem (b % 16) ∷ []

abbrev pub hex : List ℕ → List ℕ
hex = flat_map hex_pair

abbrev pub digit_value : ℕ → Option ℕ
digit_value b = cond (nat_le 48 b && nat_le b 57) (Some (b - 48)) (cond (nat_le 65 b && nat_le b 70) (Some (b - 55)) None)

abbrev pub both : Option ℕ → Option ℕ → Option ℕ
both None low = None
both (Some h) None = None
both (Some h) (Some l) = Some (h * 16 + l)

abbrev pub pair_value_lem : ℕ → ℕ → Option ℕ
pair_value_lem a b = both (digit_value a) (digit_value b)

abbrev pub after : List ℕ → Option (List ℕ) → Option (List ℕ)
after xs None = None
after xs (Some ys) = Some (xs ++ ys)

abbrev pub then : Option ℕ → Option (List ℕ) → Option (List ℕ)
then None r = None
then (Some b) r = after (b ∷ []) r

abbrev pub bytes_of : List ℕ → Option (List ℕ)
bytes_of [] = Some []
bytes_of (a ∷ []) = None
bytes_of (a ∷ b ∷ rest) = then (pair_value_lem a b) (bytes_of rest)

spelled : bytes_of (codes "4C0AFF") ≡ Some (76 ∷ 10 ∷ 255 ∷ [])
spelled = refl

small_letters : bytes_of (codes "4c") ≡ None
small_letters = refl

odd : bytes_of (codes "450") ≡ None
odd = refl
