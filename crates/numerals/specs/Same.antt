-- Two numbers are the same where their level and counters are, whatever the proofs in them.
use Rattle.std.specs.Prelude.{◌≡◌}
use mathlib.Core.HLevel.{is_prop→PathP}
use denote.Struct.Props.{props}
use Rattle.numerals.specs.declared.heading.HeadingNumber.{HeadingNumber, sound-type}

pub number_same : (a b : HeadingNumber) → a.level ≡ b.level → a.counters ≡ b.counters → a ≡ b
number_same a b p q =
    let s = is_prop→PathP (λ i. sound-type (p i) (q i)) (λ i. hlevel props) a.sound b.sound in
    λ i. record { level = p i; counters = q i; sound = s i }
