-- The lines of a record: one frame a line, in hexadecimal digits, and a newline.
--   position_bytes_lem    level, three counters, page high, page low
--   label_frame           4C, name length, name, position
--   contents_frame        43, position
--   end_frame             45, label count, contents count
--   line                  the line of a frame
--   lines                 the lines of a record: labels, contents, end
use Rattle.std.specs.Prelude.{◌≡◌, ℕ, ◌/◌, ◌%◌, List, [], ◌∷◌, ◌++◌, length, codes, refl}
use Rattle.std.specs.List.{flat_map}
use Rattle.record.specs.Positions.{Position, Label}
use Rattle.record.specs.Lists.{Lists, no_entries}
use Rattle.recordlines.specs.Hex.{hex}

abbrev pub position_bytes_lem : Position → List ℕ
position_bytes_lem p = p.level ∷ p.counters.first ∷ p.counters.second ∷ p.counters.third ∷ (p.page / 256) ∷ (p.page % 256) ∷ []

abbrev pub label_frame : Label → List ℕ
label_frame l = 76 ∷ length l.name ∷ (l.name ++ position_bytes_lem l.position)

abbrev pub contents_frame : Position → List ℕ
contents_frame p = 67 ∷ position_bytes_lem p

abbrev pub end_frame : Lists → List ℕ
end_frame ls = 69 ∷ length ls.labels ∷ length ls.contents ∷ []

abbrev pub line : List ℕ → List ℕ
line f = hex f ++ (10 ∷ [])

abbrev pub label_line : Label → List ℕ
label_line l = line (label_frame l)

abbrev pub contents_line : Position → List ℕ
contents_line p = line (contents_frame p)

abbrev pub lines : Lists → List ℕ
lines ls = flat_map label_line ls.labels ++ (flat_map contents_line ls.contents ++ line (end_frame ls))

empty : lines no_entries ≡ codes "450000" ++ (10 ∷ [])
empty = refl

valve : Label
valve = record { name = codes "v"; position = record { level = 1; counters = record { first = 1; second = 0; third = 0 }; page = 2 } }

valve_line : label_line valve ≡ codes "4C0176010100000002" ++ (10 ∷ [])
unfolding valve
valve_line = refl
