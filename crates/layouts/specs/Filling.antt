-- How the line filler sets words. What is used of a line is its columns.
--   before    the place right before a word of n bytes: the place itself where nothing is used, after
--             the space where space and word fit the line, otherwise the beginning of the next line
--   sets      what comes of setting a word: its last column is what is used then
--   filling   the meaning of the line filler
--   in_range  width 20 to 120, height 1 to 90
--   Fronted   the front of every filler is right after its used columns
--   Made      what the making call answers: a filler with these settings at the opening place, or 16
use Rattle.std.specs.Prelude.{◌≡◌, ℕ, ◌+◌, Bool, true, false, cond, ◌&&◌, List, length, Ok, Err, Result, ◌==◌, nat_le}
use Rattle.faults.specs.Faults.{plain}
use Rattle.faults.specs.declared.cause.Cause.TheVariants.{LayoutSettings}
use Rattle.faults.specs.declared.fault.Fault.{Fault}
use Rattle.layout.specs.Spots.{at, printed}
use Rattle.layout.specs.Meaning.{Meaning, Outcome}
use Rattle.layout.specs.declared.refusal.Refusal.{Refusal}
use Rattle.layouts.specs.Lines.{Place, place, reach, opening, accepted, next_line_lem, paragraph_end, page_end, or_refused, put, front}
use Rattle.layouts.specs.declared.filler.state.Sheet.{Sheet}
use Rattle.layouts.specs.declared.filler.state.LineMark.{LineMark}
use Rattle.layouts.specs.declared.filler.state.LineFiller.{LineFiller}

-- what is used is columns
abbrev pub columns : ℕ → ℕ
columns c = c

abbrev pub before : Sheet → Place → ℕ → Result Place Refusal
before s q n =
    cond (q.used == 0) (Ok q)
    (cond (nat_le (q.used + 1 + n) s.width) (Ok (place q.page q.line (q.used + 1))) (next_line_lem s.height q))

abbrev pub sets : Sheet → Place → List ℕ → Outcome Place
sets s q w = or_refused (λ n. or_refused (put columns (λ c. c + n)) (before s q n)) (accepted s.width (length w))

abbrev pub filling : Meaning LineFiller LineMark
filling = record {
  Settings = Sheet;
  Place = Place;
  settings = λ x. x.sheet;
  place = λ x. reach x.place;
  letter = 76;
  paper = λ s. printed s.height s.width;
  spot = λ s k. at k.page.number k.line k.column;
  front = λ s q. front columns q;
  opening = λ s. opening;
  sets = sets;
  paragraph_end = λ s q. paragraph_end s.width q;
  page_end = λ s q. page_end s.height s.width q;
}

abbrev pub Fronted : Type 0
Fronted = (x : LineFiller) → filling.front x.sheet (reach x.place) ≡ at x.place.page.number x.place.line (x.place.used + 1)

abbrev pub in_range : ℕ → ℕ → Bool
in_range width height = (nat_le 20 width && nat_le width 120) && (nat_le 1 height && nat_le height 90)

abbrev pub Made : ℕ → ℕ → Result LineFiller Fault → Type 0
Made width height (Ok x) = (in_range width height ≡ true) × ((x.sheet.width ≡ width) × ((x.sheet.height ≡ height) × (reach x.place ≡ opening)))
Made width height (Err e) = (in_range width height ≡ false) × (e ≡ plain LayoutSettings)
