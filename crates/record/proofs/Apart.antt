-- Names stay apart when a new one is added.
use Rattle.std.proofs.Common.{◌≡◌, ℕ, Bool, true, false, cond, not, List, [], ◌∷◌, ◌++◌, is_some, Some, None, Ok, Err, Option, sym, refl, ap, ◌∙◌, arith}
use Rattle.std.specs.Str.{bytes_eq}
use Rattle.std.proofs.lemmas.Slice.Eq.{bytes_eq-Decides}
use Rattle.std.proofs.lemmas.Bool.{and_parts, and_from}
use Rattle.std.proofs.lemmas.Bool.Decides.{same_from_decides, Decides-like}
use Rattle.record.specs.Positions.{Label}
use Rattle.record.specs.Labels.{later, place_of, distinct}
use Rattle.record.specs.Lists.{Lists, Answer, with_label, Changes}

pub same_either_way : (a b : List ℕ) → bytes_eq a b ≡ bytes_eq b a
same_either_way a b = same_from_decides _ _ (bytes_eq-Decides a b) (Decides-like _ sym sym (bytes_eq-Decides b a))

none_parts : (b : Bool) (o : Option ℕ) → cond b (Some 0) (later 1 o) ≡ None → (b ≡ false) × (o ≡ None)
none_parts true o e = absurd (let z : ◌≡◌ {A = ℕ} 0 1 = cc in omega arith)
none_parts false None e = (refl, refl)
none_parts false (Some i) e = absurd (let z : ◌≡◌ {A = ℕ} 0 1 = cc in omega arith)

pub absent_push : (n : List ℕ) (ls : List Label) (l : Label) → place_of n ls ≡ None → bytes_eq l.name n ≡ false → place_of n (ls ++ (l ∷ [])) ≡ None
absent_push n [] l e f = ap (λ b. cond b (Some 0) None) f
absent_push n (x ∷ ls) l e f =
    let p = none_parts _ (place_of n ls) e in
    ap (λ b. cond b (Some 0) (later 1 (place_of n (ls ++ (l ∷ []))))) p.0 ∙ ap (later 1) (absent_push n ls l p.1 f)

pub none_some : (o : Option ℕ) → not (is_some o) ≡ true → o ≡ None
none_some None e = refl
none_some (Some i) e = absurd (let z : ◌≡◌ {A = ℕ} 0 1 = cc in omega arith)

pub distinct_push : (ls : List Label) (l : Label) → place_of l.name ls ≡ None → distinct ls ≡ true → distinct (ls ++ (l ∷ [])) ≡ true
distinct_push [] l e d = refl
distinct_push (x ∷ ls) l e d =
    let p = none_parts _ (place_of l.name ls) e in
    let q = and_parts (not (is_some (place_of x.name ls))) (distinct ls) d in
    let apart = same_either_way l.name x.name ∙ p.0 in
    let far = absent_push x.name ls l (none_some _ q.0) apart in
    and_from _ _ (ap (λ o. not (is_some o)) far) (distinct_push ls l p.1 q.1)

pub none_is_left : (o p : Option ℕ) (b : Bool) → o ≡ p → b ≡ is_some o → b ≡ false → p ≡ None
none_is_left o None b e s f = refl
none_is_left o (Some i) b e s f = absurd (let z : ◌≡◌ {A = ℕ} 0 1 = cc in omega arith)

-- whether the label was added or not
pub changes_apart : (r answer : Answer) (ls after : Lists) (l : Label) → Changes r answer (with_label ls l) ls after → place_of l.name ls.labels ≡ None → distinct ls.labels ≡ true → distinct after.labels ≡ true
changes_apart (Ok u) answer ls after l h e d = ap (λ (x : Lists). distinct x.labels) h.1 ∙ distinct_push ls.labels l e d
changes_apart (Err f) answer ls after l h e d = ap (λ (x : Lists). distinct x.labels) h.1 ∙ d

absent_inside : (n : List ℕ) (xs : List Label) (l : Label) (ys : List Label) → place_of n (xs ++ (l ∷ ys)) ≡ None → bytes_eq l.name n ≡ false
absent_inside n [] l ys e = (none_parts _ (place_of n ys) e).0
absent_inside n (x ∷ xs) l ys e = absent_inside n xs l ys (none_parts _ (place_of n (xs ++ (l ∷ ys))) e).1

-- of distinct names, none stands before itself
pub absent_before : (xs : List Label) (l : Label) (ys : List Label) → distinct (xs ++ (l ∷ ys)) ≡ true → place_of l.name xs ≡ None
absent_before [] l ys d = refl
absent_before (x ∷ xs) l ys d =
    let q = and_parts (not (is_some (place_of x.name (xs ++ (l ∷ ys))))) (distinct (xs ++ (l ∷ ys))) d in
    let apart = same_either_way x.name l.name ∙ absent_inside x.name xs l ys (none_some _ q.0) in
    (λ i. cond (apart i) (Some 0) (later 1 (absent_before xs l ys q.1 i)))
