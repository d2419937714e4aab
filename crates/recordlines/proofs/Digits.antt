-- Digits and bytes undo each other.
use Rattle.std.proofs.Common.{◌≡◌, ℕ, ◌+◌, ◌-◌, ◌*◌, ◌/◌, ◌%◌, ◌<◌, ◌&&◌, ltb, leb, List, [], ◌∷◌, ◌++◌, Some, None, Option, sym, refl, ap, ◌∙◌, subst, ⊎_elim, div-add-mod', arith}
use Rattle.std.specs.List.{AllByRecursion}
use Rattle.std.proofs.lemmas.Bool.{cond-true, cond-false, cases_Bool, and_parts, leb-true, le-leb, lt-leb, lt-ltb, le-ltb, ltb-true, ltb-false, and_from, and_right}
use Rattle.recordlines.specs.Hex.{hex, hex_pair, hex_digit_lem, digit_value, both, pair_value_lem, after, then, bytes_of}

-- values that two constructors made are not one
pub clash : {X : Type 0} → ◌≡◌ {A = ℕ} 0 1 → X
clash e = absurd (omega (arith, e))

abbrev pub Byte : ℕ → Type 0
Byte b = b < 256

-- a digit that has a value is the digit of it
pub value_digit : (a v : ℕ) → digit_value a ≡ Some v → (v < 16) × (hex_digit_lem v ≡ a)
value_digit a v e =
    ⊎_elim
    (λ t.
    let p = and_parts (leb 48 a) (leb a 57) t in
    let lo = leb-true 48 a p.0 in
    let hi = leb-true a 57 p.1 in
    let is : Some v ≡ Some (a - 48) = sym e ∙ cond-true _ _ _ t in
    let n : v ≡ a - 48 = cc in
    (omega arith, cond-true _ _ _ (lt-ltb v 10 (omega arith)) ∙ omega arith))
    (λ f.
    let rest = sym (cond-false _ _ _ f) ∙ e in
    ⊎_elim
    (λ t.
    let p = and_parts (leb 65 a) (leb a 70) t in
    let lo = leb-true 65 a p.0 in
    let hi = leb-true a 70 p.1 in
    let is : Some v ≡ Some (a - 55) = sym rest ∙ cond-true _ _ _ t in
    let n : v ≡ a - 55 = cc in
    (omega arith, cond-false _ _ _ (le-ltb v 10 (omega arith)) ∙ omega arith))
    (λ g. absurd (let is : None ≡ Some v = sym (cond-false _ _ _ g) ∙ rest in clash cc))
    (cases_Bool (leb 65 a && leb a 70)))
    (cases_Bool (leb 48 a && leb a 57))

-- the digit of a value below 16 has that value
pub digit_valued : (v : ℕ) → v < 16 → digit_value (hex_digit_lem v) ≡ Some v
digit_valued v h =
    ⊎_elim
    (λ t.
    let s = ltb-true v 10 t in
    ap digit_value (cond-true _ (48 + v) (55 + v) t)
    ∙ cond-true _ _ _ (and_from _ _ (le-leb 48 (48 + v) (omega arith)) (le-leb (48 + v) 57 (omega arith)))
    ∙ ap (λ n. Some n) (omega arith))
    (λ f.
    let s = ltb-false v 10 f in
    ap digit_value (cond-false _ (48 + v) (55 + v) f)
    ∙ cond-false _ _ _ (and_right (leb 48 (55 + v)) _ (lt-leb (55 + v) 57 (omega arith)))
    ∙ cond-true _ _ _ (and_from _ _ (le-leb 65 (55 + v) (omega arith)) (le-leb (55 + v) 70 (omega arith)))
    ∙ ap (λ n. Some n) (omega arith))
    (cases_Bool (ltb v 10))

both_some : (h l : Option ℕ) (b : ℕ) → both h l ≡ Some b → (x : ℕ) × (y : ℕ) × (h ≡ Some x) × (l ≡ Some y) × (b ≡ x * 16 + y)
both_some None l b e = clash cc
both_some (Some x) None b e = clash cc
both_some (Some x) (Some y) b e = (x, y, refl, refl, (let q : b ≡ x * 16 + y = cc in q))

pub value_pair : (a b x : ℕ) → pair_value_lem a b ≡ Some x → (x < 256) × (hex_pair x ≡ a ∷ b ∷ [])
value_pair a b x e =
    let s = both_some (digit_value a) (digit_value b) x e in
    let p = value_digit a s.0 s.2 in
    let q = value_digit b s.1 s.3 in
    let n = s.4 in
    let hp = p.0 in
    let hq = q.0 in
    let d : x / 16 ≡ s.0 = omega arith in
    let m : x % 16 ≡ s.1 = omega arith in
    (omega arith, λ i. (ap hex_digit_lem d ∙ p.1) i ∷ (ap hex_digit_lem m ∙ q.1) i ∷ [])

pub pair_valued : (x : ℕ) → x < 256 → pair_value_lem (hex_digit_lem (x / 16)) (hex_digit_lem (x % 16)) ≡ Some x
pair_valued x h =
    (λ i. both (digit_valued (x / 16) (omega arith) i) (digit_valued (x % 16) (omega arith) i)) ∙ ap (λ n. Some n) (div-add-mod' x 16)

after_some : (xs : List ℕ) (r : Option (List ℕ)) (ys : List ℕ) → after xs r ≡ Some ys → (zs : List ℕ) × (r ≡ Some zs) × (ys ≡ xs ++ zs)
after_some xs None ys e = clash cc
after_some xs (Some zs) ys e = (zs, refl, (let q : ys ≡ xs ++ zs = cc in q))

then_some : (o : Option ℕ) (r : Option (List ℕ)) (ys : List ℕ) → then o r ≡ Some ys → (b : ℕ) × (zs : List ℕ) × (o ≡ Some b) × (r ≡ Some zs) × (ys ≡ b ∷ zs)
then_some None r ys e = clash cc
then_some (Some b) r ys e = let s = after_some (b ∷ []) r ys e in (b, s.0, refl, s.1, s.2)

-- digits that spell bytes are the digits of these
pub bytes_spelled : (ds f : List ℕ) → bytes_of ds ≡ Some f → (hex f ≡ ds) × AllByRecursion Byte f
bytes_spelled [] f e = let n : f ≡ [] = cc in (ap hex n, subst (AllByRecursion Byte) (sym n) tt)
bytes_spelled (a ∷ []) f e = clash cc
bytes_spelled (a ∷ b ∷ ds) f e =
    let s = then_some (pair_value_lem a b) (bytes_of ds) f e in
    let p = value_pair a b s.0 s.2 in
    let ih = bytes_spelled ds s.1 s.3 in
    (ap hex s.4 ∙ (λ i. p.1 i ++ ih.0 i), subst (AllByRecursion Byte) (sym s.4) (p.0, ih.1))

-- the digits of bytes spell them
pub spells_bytes : (f : List ℕ) → AllByRecursion Byte f → bytes_of (hex f) ≡ Some f
spells_bytes [] h = refl
spells_bytes (b ∷ f) h = λ i. then (pair_valued b h.0 i) (spells_bytes f h.1 i)
