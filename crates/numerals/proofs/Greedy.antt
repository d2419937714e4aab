-- The steps of the greedy rule, and its sum.
use Rattle.std.specs.List.{flat_map}
use Rattle.std.proofs.lemmas.Grind.{flat_map-append}
use Rattle.std.proofs.Common.{◌≡◌, ℕ, zero, suc, ◌+◌, ◌-◌, ◌*◌, ◌/◌, ◌%◌, ◌<◌, ◌≤◌, List, [], ◌∷◌, ◌++◌, get_or, drop, replicate, sym, ap, ◌∙◌, append_assoc, append-nil, None, suc-mul, div-add-mod', arith}
use native.Mathlib.Nat.{mod-one}
use Rattle.std.proofs.lemmas.Nat.{div-mul-add, mod-mul-add, le-div, mod_below}
use Rattle.std.proofs.lemmas.List.{drop_more, drop_all}
use Rattle.numerals.specs.Roman.{Row, rows, letters, chosen, values}

-- one time less that v goes into a number
pub taken : (n v : ℕ) → 0 < v → v ≤ n → (n / v ≡ suc ((n - v) / v)) × (n % v ≡ (n - v) % v)
taken n v p h =
    let k = n / v in
    let b = mod_below n v p in
    let q : 1 ≤ k = le-div 1 n v p (omega (arith, h)) in
    let s : suc (k - 1) ≡ k = omega (arith, q) in
    let m : k * v ≡ v + (k - 1) * v = ap (λ j. j * v) (sym s) ∙ omega (arith, suc-mul (k - 1) v) in
    let e : n - v ≡ (k - 1) * v + n % v = omega (arith, div-add-mod' n v, m, h) in
    (sym s ∙ ap suc (sym (ap (λ x. x / v) e ∙ div-mul-add (k - 1) v (n % v) b)), sym (ap (λ x. x % v) e ∙ mod-mul-add (k - 1) v (n % v) b))

pub not_taken : (n v : ℕ) → n < v → (n / v ≡ 0) × (n % v ≡ n)
not_taken n v h =
    let e : n ≡ 0 * v + n = omega arith in
    (ap (λ x. x / v) e ∙ div-mul-add 0 v n h, ap (λ x. x % v) e ∙ mod-mul-add 0 v n h)

-- a row is added as often as it goes into the rest, and then come the rows after it
pub row_added : (text : List ℕ) (i n : ℕ) (r : Row) → i < 12 → r ≡ get_or rows i (0, 0, None) → text ++ flat_map letters (chosen (drop i rows) n) ≡ (text ++ flat_map letters (replicate (n / r.0) r)) ++ flat_map letters (chosen (drop (i + 1) rows) (n % r.0))
unfolding rows
row_added text i n r h e =
    let d : drop i rows ≡ r ∷ drop (i + 1) rows = drop_more rows i (0, 0, None) h ∙ ap (λ x. x ∷ drop (i + 1) rows) (sym e) in
    ap (λ l. text ++ flat_map letters (chosen l n)) d
    ∙ ap (λ l. text ++ l) (flat_map-append letters (replicate (n / r.0) r) _)
    ∙ sym (append_assoc text _ _)

pub ends : (text : List ℕ) (i n : ℕ) → 12 ≤ i → text ++ flat_map letters (chosen (drop i rows) n) ≡ text
unfolding rows
ends text i n h = ap (λ l. text ++ flat_map letters (chosen l n)) (drop_all i rows h) ∙ append-nil text

-- what the rows leave of a number
rest : List Row → ℕ → ℕ
rest [] n = n
rest (r ∷ rs) n = rest rs (n % r.0)

values_repeated : (k : ℕ) (r : Row) (rs : List Row) → values (replicate k r ++ rs) ≡ k * r.0 + values rs
values_repeated zero r rs = omega arith
values_repeated (suc k) r rs = let ih = values_repeated k r rs in let m = suc-mul k r.0 in omega arith

values_rest : (rs : List Row) (n : ℕ) → values (chosen rs n) + rest rs n ≡ n
unfolding rest
values_rest [] n = omega arith
values_rest (r ∷ rs) n =
    let ih = values_rest rs (n % r.0) in
    let v = values_repeated (n / r.0) r (chosen rs (n % r.0)) in
    let d = div-add-mod' n r.0 in
    omega arith

pub values_all : (n : ℕ) → values (chosen rows n) ≡ n
unfolding rows rest
values_all n =
    let v = values_rest rows n in
    let z = mod-one (n % 900 % 500 % 400 % 100 % 90 % 50 % 40 % 10 % 9 % 5 % 4) in
    omega arith
