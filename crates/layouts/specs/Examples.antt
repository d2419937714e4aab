-- Computed examples of both layouts.
--   narrow   a filler's settings: 20 columns, 1 line
--   trio     a form's settings: 3 cells of 8 columns, 2 rows
use Rattle.std.specs.Prelude.{◌≡◌, ℕ, List, [], ◌∷◌, codes, refl}
use Rattle.std.proofs.Common.{arith}
use Rattle.layout.specs.Spots.{Spot, at}
use Rattle.layout.specs.Meaning.{refused, placed}
use Rattle.layout.specs.Runs.{PutWord, Run, done, word, paragraph, page}
use Rattle.layout.specs.declared.refusal.Refusal.TheVariants.{WordTooWide, PagesUsedUp}
use Rattle.layouts.specs.Lines.{place, opening}
use Rattle.layouts.specs.Filling.{filling}
use Rattle.layouts.specs.Forming.{forming}
use Rattle.layouts.specs.declared.filler.state.Sheet.{Sheet}
use Rattle.layouts.specs.declared.form.state.CellMark.{CellMark}
use Rattle.layouts.specs.declared.form.state.Grid.{Grid}

abbrev narrow : Sheet
narrow = record { width = 20; height = 1; wide = (omega arith, omega arith); high = (omega arith, omega arith) }

abbrev trio : Grid
trio = record { width = 8; cells = 3; rows = 2; wide = (omega arith, omega arith); celled = (omega arith, omega arith); high = (omega arith, omega arith); fits = (omega arith, omega arith) }

abbrev put_at : List ℕ → Spot → PutWord
put_at w t = record { bytes = w; spot = t }

-- a paragraph takes a line, and space and word may fill the line to its end
lines : Run filling narrow opening (put_at (codes "a") (at 1 1 1) ∷ put_at (codes "b") (at 2 1 1) ∷ put_at (codes "??") (at 3 1 1) ∷ put_at (codes "abcdefghijklmnopq") (at 3 1 4) ∷ []) (place 3 1 20)
lines = word _ _ refl (paragraph (word _ _ refl (paragraph (word _ _ refl (word _ _ refl done)))))

too_wide : filling.sets narrow opening (codes "abcdefghijklmnopqrstu") ≡ refused WordTooWide
too_wide = refl

last_line : filling.sets narrow (place 999 1 18) (codes "a") ≡ placed (at 999 1 20) (place 999 1 20)
last_line = refl

no_page_left : filling.sets narrow (place 999 1 19) (codes "a") ≡ refused PagesUsedUp
no_page_left = refl

-- cells of a row, then the next row; a page end at the opening place does nothing
cells : Run forming trio opening (put_at (codes "a") (at 1 1 1) ∷ put_at (codes "b") (at 1 1 9) ∷ put_at (codes "12345678") (at 1 1 17) ∷ put_at (codes "c") (at 1 2 1) ∷ put_at (codes "d") (at 2 1 1) ∷ []) (place 2 1 1)
cells = page (word _ _ refl (word _ _ refl (word _ _ refl (word _ _ refl (page (word _ _ refl done))))))

-- the mark of a form with more cells
abbrev fifth : CellMark
fifth = record { page = record { number = 4; within = (omega arith, omega arith) }; row = 2; cell = 5; celled = omega arith }

foreign : forming.spot trio fifth ≡ at 4 2 17
foreign = refl
