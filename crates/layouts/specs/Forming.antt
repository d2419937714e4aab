-- How the fixed form sets words. What is used of a line is its cells; its lines are rows.
--   used_columns   how many columns so many cells have
--   column         the first column of a cell; a cell that the form does not have, as in the mark of
--                  another form, counts as the last one
--   before         the place right before a word: the place itself, or the next row where no cell is left
--   put_cell       a word in the cell right after those that are used
--   sets           what comes of setting a word
--   forming        the meaning of the fixed form
--   Fronted        the front of every form is right after its used cells
--   in_range       cells of 8 to 40 columns, 1 to 8 to a row, together 20 to 120 columns, and 1 to 60 rows
--   Made           what the making call answers: a form with these settings at the opening place, or 16
use Rattle.std.specs.Prelude.{◌≡◌, ℕ, ◌+◌, ◌-◌, ◌*◌, min, Bool, true, false, cond, ◌&&◌, List, length, Ok, Err, Result, nat_le, nat_lt}
use Rattle.faults.specs.Faults.{plain}
use Rattle.faults.specs.declared.cause.Cause.TheVariants.{LayoutSettings}
use Rattle.faults.specs.declared.fault.Fault.{Fault}
use Rattle.layout.specs.Spots.{at, printed}
use Rattle.layout.specs.Meaning.{Meaning, Outcome, placed}
use Rattle.layout.specs.declared.refusal.Refusal.{Refusal}
use Rattle.layouts.specs.Lines.{Place, place, reach, opening, accepted, next_line_lem, paragraph_end, page_end, or_refused, front}
use Rattle.layouts.specs.declared.form.state.Grid.{Grid}
use Rattle.layouts.specs.declared.form.state.CellMark.{CellMark}
use Rattle.layouts.specs.declared.form.state.FixedForm.{FixedForm}

abbrev pub used_columns : Grid → ℕ → ℕ
used_columns s k = k * s.width

abbrev pub column : Grid → ℕ → ℕ
column s j = used_columns s (min j s.cells - 1) + 1

abbrev pub before : Grid → Place → Result Place Refusal
before s q = cond (nat_lt q.used s.cells) (Ok q) (next_line_lem s.rows q)

abbrev pub put_cell : Grid → Place → Outcome Place
put_cell s q = placed (at q.page q.line (column s (q.used + 1))) (place q.page q.line (q.used + 1))

abbrev pub sets : Grid → Place → List ℕ → Outcome Place
sets s q w = or_refused (λ n. or_refused (put_cell s) (before s q)) (accepted s.width (length w))

abbrev pub forming : Meaning FixedForm CellMark
forming = record {
  Settings = Grid;
  Place = Place;
  settings = λ x. x.grid;
  place = λ x. reach x.place;
  letter = 70;
  paper = λ s. printed s.rows (s.cells * s.width);
  spot = λ s k. at k.page.number k.row (column s k.cell);
  front = λ s q. front (used_columns s) q;
  opening = λ s. opening;
  sets = sets;
  paragraph_end = λ s q. paragraph_end s.cells q;
  page_end = λ s q. page_end s.rows s.cells q;
}

abbrev pub Fronted : Type 0
Fronted = (x : FixedForm) → forming.front x.grid (reach x.place) ≡ at x.place.page.number x.place.line (x.place.used * x.grid.width + 1)

abbrev pub in_range : ℕ → ℕ → ℕ → Bool
in_range width cells rows = ((nat_le 8 width && nat_le width 40) && (nat_le 1 cells && nat_le cells 8)) && ((nat_le 1 rows && nat_le rows 60) && (nat_le 20 (cells * width) && nat_le (cells * width) 120))

abbrev pub Made : ℕ → ℕ → ℕ → Result FixedForm Fault → Type 0
Made width cells rows (Ok x) = (in_range width cells rows ≡ true) × ((x.grid.width ≡ width) × ((x.grid.cells ≡ cells) × ((x.grid.rows ≡ rows) × (reach x.place ≡ opening))))
Made width cells rows (Err e) = (in_range width cells rows ≡ false) × (e ≡ plain LayoutSettings)
