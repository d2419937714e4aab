-- What reading the next line of a text answers and leaves.
use Rattle.std.specs.Prelude.{◌≡◌, ◌+◌, ◌<◌, [], ◌∷◌, length, Some, None, Option}
use Rattle.recordlines.specs.Load.{split}
use Rattle.recordlines.specs.declared.lines.Line.{Line}
use Rattle.recordlines.specs.declared.lines.Lines.{Lines}

abbrev pub NextLine : Lines → Option Line → Lines → Type 0
NextLine s None t = (split s.rest.now ≡ record { whole = []; rest = s.rest.now }) × (t ≡ s)
NextLine s (Some l) t =
    (split s.rest.now ≡ record { whole = l.digits.now ∷ (split t.rest.now).whole; rest = (split t.rest.now).rest })
    × (l.number ≡ s.number) × (t.number ≡ s.number + 1) × (length t.rest.now < length s.rest.now)
