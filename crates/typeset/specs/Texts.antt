-- The texts of words, as parts of the manuscript or of the numeral buffer.
--   text_in       a part of the manuscript, or so many bytes at the front of the buffer
--   Held          there are so many bytes
--   telling_shown what a telling shows
use Rattle.std.specs.Prelude.{ℕ, ◌≤◌, List, length, take, Some, None, Option}
use Rattle.record.specs.Lists.{lists_of}
use Rattle.typeset.specs.Shown.{Shown, shown}
use Rattle.typeset.specs.declared.telling.Telling.{Telling}

abbrev pub text_in : List ℕ → List ℕ → Option ℕ → List ℕ
text_in word buffer None = word
text_in word buffer (Some n) = take n buffer

abbrev pub Held : List ℕ → Option ℕ → Type 0
Held buffer None = Unit {0}
Held buffer (Some n) = n ≤ length buffer

abbrev pub telling_shown : Telling → Shown
telling_shown t = shown t.style (lists_of t.old.now)
