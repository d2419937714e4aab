-- The names in a label table.
use Rattle.std.proofs.Common.{◌≡◌, ℕ, ◌||◌, List, [], ◌∷◌, map, refl, ap, Bor}
use Rattle.std.specs.List.{list_any}
use Rattle.std.specs.Str.{bytes_eq}
use Rattle.manuscript.specs.Standing.{among}

pub list_any_among : (name : List ℕ) (rs : List (Bor (List ℕ))) → list_any (λ r. bytes_eq r.now name) rs ≡ among name (map (λ r. r.now) rs)
list_any_among name [] = refl
list_any_among name (r ∷ rs) = ap (λ b. bytes_eq r.now name || b) (list_any_among name rs)
