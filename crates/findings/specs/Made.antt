-- The record that words make.
--   position_at    a number on a page
--   label_at       a label with a name and a number on a page
--   entered        the lists with the entry of a word on a page in front; only a label and a heading have one
--   made           the lists of words, in order
use Rattle.std.specs.Prelude.{◌≡◌, ℕ, List, [], ◌∷◌, codes, refl}
use Rattle.compose.specs.Acts.{Number, Part, plain, label, heading, page_reference, number_reference, contents}
use Rattle.layout.specs.Spots.{on, at, page_of}
use Rattle.record.specs.Positions.{Position, Label}
use Rattle.record.specs.Lists.{Lists, no_entries}
use Rattle.setting.specs.Tracing.{SetWord}

abbrev pub position_at : Number → ℕ → Position
position_at k p = record { level = k.level; counters = k.counters; page = p }

abbrev pub label_at : List ℕ → Number → ℕ → Label
label_at n k p = record { name = n; position = position_at k p }

abbrev pub entered : Part → ℕ → Lists → Lists
entered plain p ls = ls
entered (label n k) p ls = record { labels = label_at n k p ∷ ls.labels; contents = ls.contents }
entered (heading k) p ls = record { labels = ls.labels; contents = position_at k p ∷ ls.contents }
entered (page_reference n b a) p ls = ls
entered (number_reference n b a) p ls = ls
entered contents p ls = ls

abbrev pub made : List SetWord → Lists
made [] = no_entries
made (w ∷ ws) = entered w.part (page_of w.spot) (made ws)

first : Number
first = record { level = 1; counters = record { first = 1; second = 0; third = 0 } }

two_words : made (record { bytes = codes "1"; part = heading first; spot = at 2 1 1 } ∷ record { bytes = codes "here"; part = label (codes "a") first; spot = at 3 4 5 } ∷ [])
    ≡ record { labels = label_at (codes "a") first 3 ∷ []; contents = position_at first 2 ∷ [] }
two_words = refl

no_entry : made (record { bytes = codes "iv"; part = page_reference (codes "a") 0 0; spot = on 4 } ∷ record { bytes = codes "1"; part = contents; spot = on 4 } ∷ []) ≡ no_entries
no_entry = refl
