-- A word is its parts put together.
--   letter        the letter of a mark
--   mark_bytes    a mark with its name, as it is written
--   Joined        a word is a prefix, a mark with a name, and a suffix, and has no other brace
--   Whole         what taking a word apart says of it: without a mark it has no brace, and with one it is its parts joined
use Rattle.std.specs.Prelude.{◌≡◌, ℕ, true, List, [], ◌∷◌, ◌++◌, Some, None, Ok, Err}
use Rattle.names.specs.Name.{naming}
use Rattle.runs.specs.Run.{all}
use Rattle.marks.specs.declared.mark.Mark.{Mark}
use Rattle.marks.specs.declared.mark.Mark.TheVariants.{Label, Page, Number}
use Rattle.marks.specs.Parts.{plain, MarkedWord, Parts}

abbrev pub letter : Mark → ℕ
letter Label = 108
letter Page = 112
letter Number = 110

abbrev pub mark_bytes : Mark → List ℕ → List ℕ
mark_bytes m name = 123 ∷ letter m ∷ 58 ∷ (name ++ 125 ∷ [])

pub record Joined (w : List ℕ) (m : MarkedWord) : Type 0 where
  pub whole : w ≡ m.prefix ++ (mark_bytes m.mark m.name ++ m.suffix)
  pub before : all plain m.prefix ≡ true
  pub named : naming m.name ≡ Ok tt
  pub behind : all plain m.suffix ≡ true

abbrev pub Whole : List ℕ → Parts → Type 0
Whole w (Ok None) = all plain w ≡ true
Whole w (Ok (Some m)) = Joined w m
Whole w (Err e) = Unit {0}
