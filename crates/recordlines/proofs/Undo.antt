-- Lines that load are the lines that saving writes.
use Rattle.std.proofs.Common.{◌≡◌, ℕ, zero, suc, ◌+◌, ◌*◌, ◌/◌, ◌%◌, ◌<◌, Bool, true, false, cond, ◌&&◌, eqb, leb, ◌⊎◌, List, [], ◌∷◌, ◌++◌, length, take, drop, Some, None, Option, sym, refl, ap, ◌∙◌, subst, inl, inr, ⊎_elim, append_assoc, append-nil, arith, length-drop, take-append-drop, length-take}
use Rattle.std.specs.List.{flat_map, AllByRecursion}
use Rattle.std.proofs.lemmas.Grind.{flat_map-append}
use Rattle.std.proofs.lemmas.List.{nil_from_length}
use Rattle.std.proofs.lemmas.Bool.{and_parts, eqb-true}
use Rattle.faults.specs.declared.cause.Cause.{Cause}
use Rattle.faults.specs.declared.cause.Cause.TheVariants.{FrameMalformed, FrameInvalid}
use Rattle.record.specs.Positions.{Position, Label}
use Rattle.record.specs.Lists.{Lists, no_entries, with_label, with_heading}
use Rattle.recordlines.specs.Hex.{hex, bytes_of}
use Rattle.recordlines.specs.Frame.{position_bytes_lem, label_frame, end_frame, line, label_line, contents_line, lines}
use Rattle.recordlines.specs.Step.{Step, keeps, ends, wrong, position_from, name_sized, no_contents, label_fits, heading_fits, label_step, contents_step, step, decoded, frame_step, line_step}
use Rattle.recordlines.specs.Load.{accepted, split, read, closed, go_on, loaded}
use Rattle.recordlines.proofs.Digits.{Byte, clash, bytes_spelled}
use Rattle.recordlines.proofs.Splitting.{rejoined}

-- the lines of entries without the end
so_far : Lists → List ℕ
so_far ls = flat_map label_line ls.labels ++ flat_map contents_line ls.contents

picks : {X : Type 0} (b : Bool) (s t r : X) → cond b s t ≡ r → ((b ≡ true) × (s ≡ r)) ⊎ ((b ≡ false) × (t ≡ r))
picks true s t r e = inl (refl, e)
picks false s t r e = inr (refl, e)

-- a test before a refusal has passed where there was none
passed : (b : Bool) (s : Step) (c : Cause) (now : Lists) → cond b s (wrong c) ≡ keeps now → (b ≡ true) × (s ≡ keeps now)
passed true s c now e = (refl, e)
passed false s c now e = clash cc

all_drop : (n : ℕ) (xs : List ℕ) → AllByRecursion Byte xs → AllByRecursion Byte (drop n xs)
all_drop zero xs h = h
all_drop (suc n) [] h = h
all_drop (suc n) (x ∷ xs) h = all_drop n xs h.1

position_back : (bs : List ℕ) (p : Position) → AllByRecursion Byte bs → position_from bs ≡ Some p → position_bytes_lem p ≡ bs
position_back [] p h e = clash cc
position_back (a ∷ []) p h e = clash cc
position_back (a ∷ b ∷ []) p h e = clash cc
position_back (a ∷ b ∷ c ∷ []) p h e = clash cc
position_back (a ∷ b ∷ c ∷ d ∷ []) p h e = clash cc
position_back (a ∷ b ∷ c ∷ d ∷ f ∷ []) p h e = clash cc
position_back (level ∷ a ∷ b ∷ c ∷ high ∷ low ∷ []) p h e =
    let q : Position = record { level = level; counters = record { first = a; second = b; third = c }; page = high * 256 + low } in
    let s : q ≡ p = cc in
    let small : low < 256 = h.1.1.1.1.1.0 in
    let d : (high * 256 + low) / 256 ≡ high = omega arith in
    let m : (high * 256 + low) % 256 ≡ low = omega arith in
    ap position_bytes_lem (sym s) ∙ (λ i. level ∷ a ∷ b ∷ c ∷ d i ∷ m i ∷ [])
position_back (a ∷ b ∷ c ∷ d ∷ f ∷ g ∷ x ∷ more) p h e = clash cc

-- one more label, while there are no contents
label_more : (ls : Lists) (l : Label) → ls.contents ≡ [] → so_far (with_label ls l) ≡ so_far ls ++ label_line l
unfolding so_far
label_more ls l e =
    let none = ap (flat_map contents_line) e in
    let j = flat_map label_line ls.labels in
    (λ i. flat_map-append label_line ls.labels (l ∷ []) i ++ none i)
    ∙ append-nil _ ∙ ap (λ x. j ++ x) (append-nil (label_line l)) ∙ ap (λ x. x ++ label_line l) (sym (append-nil j) ∙ ap (λ x. j ++ x) (sym none))

contents_more : (ls : Lists) (p : Position) → so_far (with_heading ls p) ≡ so_far ls ++ contents_line p
unfolding so_far
contents_more ls p =
    ap (λ x. flat_map label_line ls.labels ++ x) (flat_map-append contents_line ls.contents (p ∷ []) ∙ ap (λ x. flat_map contents_line ls.contents ++ x) (append-nil (contents_line p)))
    ∙ sym (append_assoc (flat_map label_line ls.labels) (flat_map contents_line ls.contents) (contents_line p))

label_back : (ls now : Lists) (n : ℕ) (rest : List ℕ) (o : Option Position) → position_from (drop n rest) ≡ o → AllByRecursion Byte rest → label_step ls (take n rest) o ≡ keeps now → so_far now ≡ so_far ls ++ line (76 ∷ n ∷ rest)
label_back ls now n rest None q h e = clash cc
label_back ls now n rest (Some p) q h e =
    let l : Label = record { name = take n rest; position = p } in
    let a = passed (name_sized (take n rest) && no_contents ls) _ FrameMalformed now e in
    let b = passed (label_fits ls l) _ FrameInvalid now a.1 in
    let made : with_label ls l ≡ now = cc in
    let none : ls.contents ≡ [] = nil_from_length ls.contents (eqb-true _ 0 (and_parts (name_sized (take n rest)) _ a.0).1) in
    let back = position_back (drop n rest) p (all_drop n rest h) q in
    let six = ap length back in
    let long = length-drop n rest in
    let count : length (take n rest) ≡ n = length-take n rest ∙ omega arith in
    let frame : label_frame l ≡ 76 ∷ n ∷ rest = λ i. 76 ∷ count i ∷ (ap (λ x. take n rest ++ x) back ∙ take-append-drop n rest) i in
    ap so_far (sym made) ∙ label_more ls l none ∙ ap (λ f. so_far ls ++ line f) frame

contents_back : (ls now : Lists) (rest : List ℕ) (o : Option Position) → position_from rest ≡ o → AllByRecursion Byte rest → contents_step ls o ≡ keeps now → so_far now ≡ so_far ls ++ line (67 ∷ rest)
contents_back ls now rest None q h e = clash cc
contents_back ls now rest (Some p) q h e =
    let b = passed (heading_fits ls p) _ FrameInvalid now e in
    let made : with_heading ls p ≡ now = cc in
    ap so_far (sym made) ∙ contents_more ls p ∙ ap (λ x. so_far ls ++ line (67 ∷ x)) (position_back rest p h q)

last_ends : (ls : Lists) (rest : List ℕ) (r : Step) → step ls (69 ∷ rest) ≡ r → (r ≡ ends → rest ≡ length ls.labels ∷ length ls.contents ∷ []) × ((now : Lists) → r ≡ keeps now → ⊥)
last_ends ls [] r e = (λ x. clash cc, λ now x. clash cc)
last_ends ls (a ∷ []) r e = (λ x. clash cc, λ now x. clash cc)
last_ends ls (a ∷ b ∷ []) r e =
    ⊎_elim
    (λ p.
    let t = and_parts (eqb a (length ls.labels)) (eqb b (length ls.contents)) p.0 in
    (λ x i. eqb-true a _ t.0 i ∷ eqb-true b _ t.1 i ∷ [], λ now x. let f = p.1 in clash cc))
    (λ p.
    let f = p.1 in
    (λ x. clash cc, λ now x. clash cc))
    (picks (eqb a (length ls.labels) && eqb b (length ls.contents)) ends (wrong FrameInvalid) r e)
last_ends ls (a ∷ b ∷ c ∷ more) r e = (λ x. clash cc, λ now x. clash cc)

never_ends : (b : Bool) (s : Step) (c : Cause) → (s ≡ ends → ⊥) → cond b s (wrong c) ≡ ends → ⊥
never_ends true s c h e = h e
never_ends false s c h e = clash cc

label_no_end : (ls : Lists) (name : List ℕ) (o : Option Position) → label_step ls name o ≡ ends → ⊥
label_no_end ls name None e = clash cc
label_no_end ls name (Some p) e =
    never_ends (name_sized name && no_contents ls) _ FrameMalformed
    (never_ends (label_fits ls (record { name = name; position = p })) _ FrameInvalid (λ k. clash cc))
    e

contents_no_end : (ls : Lists) (o : Option Position) → contents_step ls o ≡ ends → ⊥
contents_no_end ls None e = clash cc
contents_no_end ls (Some p) e = never_ends (heading_fits ls p) _ FrameInvalid (λ k. clash cc) e

-- what a frame did tells the frame
ToldBy : Lists → List ℕ → Step → Type 0
ToldBy ls f (keeps now) = so_far now ≡ so_far ls ++ line f
ToldBy ls f ends = f ≡ end_frame ls
ToldBy ls f (wrong c) = Unit {0}

label_told_by : (ls : Lists) (rest : List ℕ) (r : Step) → AllByRecursion Byte rest → step ls (76 ∷ rest) ≡ r → ToldBy ls (76 ∷ rest) r
unfolding ToldBy
label_told_by ls [] (keeps now) h e = clash cc
label_told_by ls [] ends h e = clash cc
label_told_by ls [] (wrong c) h e = tt
label_told_by ls (n ∷ rest) (keeps now) h e = label_back ls now n rest (position_from (drop n rest)) refl h.1 e
label_told_by ls (n ∷ rest) ends h e = absurd (label_no_end ls (take n rest) (position_from (drop n rest)) e)
label_told_by ls (n ∷ rest) (wrong c) h e = tt

contents_told_by : (ls : Lists) (rest : List ℕ) (r : Step) → AllByRecursion Byte rest → step ls (67 ∷ rest) ≡ r → ToldBy ls (67 ∷ rest) r
unfolding ToldBy
contents_told_by ls rest (keeps now) h e = contents_back ls now rest (position_from rest) refl h e
contents_told_by ls rest ends h e = absurd (contents_no_end ls (position_from rest) e)
contents_told_by ls rest (wrong c) h e = tt

end_told_by : (ls : Lists) (rest : List ℕ) (r : Step) → step ls (69 ∷ rest) ≡ r → ToldBy ls (69 ∷ rest) r
unfolding ToldBy
end_told_by ls rest (keeps now) e = absurd ((last_ends ls rest (keeps now) e).1 now refl)
end_told_by ls rest ends e = ap (λ l. 69 ∷ l) ((last_ends ls rest ends e).0 refl)
end_told_by ls rest (wrong c) e = tt

malformed_told_by : (ls : Lists) (f : List ℕ) (r : Step) → wrong FrameMalformed ≡ r → ToldBy ls f r
unfolding ToldBy
malformed_told_by ls f (keeps now) e = clash cc
malformed_told_by ls f ends e = clash cc
malformed_told_by ls f (wrong c) e = tt

frame_told_by : (ls : Lists) (f : List ℕ) (r : Step) → AllByRecursion Byte f → step ls f ≡ r → ToldBy ls f r
frame_told_by ls [] r h e = malformed_told_by ls [] r e
frame_told_by ls (k ∷ rest) r h e =
    let first : (m : ℕ) → eqb k m ≡ true → step ls (m ∷ rest) ≡ r = λ m t. ap (λ x. step ls (x ∷ rest)) (sym (eqb-true k m t)) ∙ e in
    let told : (m : ℕ) → eqb k m ≡ true → ToldBy ls (m ∷ rest) r → ToldBy ls (k ∷ rest) r = λ m t d. subst (λ x. ToldBy ls (x ∷ rest) r) (sym (eqb-true k m t)) d in
    ⊎_elim
    (λ p. told 76 p.0 (label_told_by ls rest r h.1 (first 76 p.0)))
    (λ p. ⊎_elim
    (λ q. told 67 q.0 (contents_told_by ls rest r h.1 (first 67 q.0)))
    (λ q. ⊎_elim
    (λ u. told 69 u.0 (end_told_by ls rest r (first 69 u.0)))
    (λ u. malformed_told_by ls (k ∷ rest) r u.1)
    (picks (eqb k 69) _ _ r q.1))
    (picks (eqb k 67) _ _ r p.1))
    (picks (eqb k 76) _ _ r e)

-- the same of a line
LineToldBy : Lists → List ℕ → Step → Type 0
LineToldBy ls ds (keeps now) = so_far now ≡ so_far ls ++ (ds ++ (10 ∷ []))
LineToldBy ls ds ends = line (end_frame ls) ≡ ds ++ (10 ∷ [])
LineToldBy ls ds (wrong c) = Unit {0}

line_by_frame : (ls : Lists) (ds f : List ℕ) (r : Step) → hex f ≡ ds → ToldBy ls f r → LineToldBy ls ds r
unfolding ToldBy LineToldBy
line_by_frame ls ds f (keeps now) e h = h ∙ ap (λ x. so_far ls ++ (x ++ (10 ∷ []))) e
line_by_frame ls ds f ends e h = ap line (sym h) ∙ ap (λ x. x ++ (10 ∷ [])) e
line_by_frame ls ds f (wrong c) e h = tt

by_decoded : (ls : Lists) (ds : List ℕ) (o : Option (List ℕ)) (r : Step) → decoded ds ≡ o → frame_step ls o ≡ r → LineToldBy ls ds r
unfolding LineToldBy
by_decoded ls ds None (keeps now) q e = clash cc
by_decoded ls ds None ends q e = clash cc
by_decoded ls ds None (wrong c) q e = tt
by_decoded ls ds (Some f) r q e =
    ⊎_elim
    (λ p. let s = bytes_spelled ds f p.1 in line_by_frame ls ds f r s.0 (frame_told_by ls f r s.1 e))
    (λ p. absurd (let n = p.1 in clash cc))
    (picks (leb (length ds) 48) (bytes_of ds) None (Some f) q)

line_told_by : (ls : Lists) (ds : List ℕ) (r : Step) → line_step ls ds ≡ r → LineToldBy ls ds r
unfolding line_step
line_told_by ls ds r e = by_decoded ls ds (decoded ds) r refl e

rows : List (List ℕ) → List ℕ → List ℕ
rows ws t = flat_map (λ l. l ++ (10 ∷ [])) ws ++ t

closed_back : (ls now : Lists) (n : ℕ) (ws : List (List ℕ)) (t : List ℕ) → closed ls n ws t ≡ accepted now → (rows ws t ≡ []) × (ls ≡ now)
unfolding rows
closed_back ls now n [] [] e = (refl, (let q : ls ≡ now = cc in q))
closed_back ls now n [] (b ∷ t) e = clash cc
closed_back ls now n (w ∷ ws) t e = clash cc

-- one step of reading, with what is known of the lines that follow
step_back : (ls now : Lists) (n : ℕ) (l : List ℕ) (ws : List (List ℕ)) (t : List ℕ) (s : Step) → LineToldBy ls l s → ((next : Lists) → read next (n + 1) ws t ≡ accepted now → lines now ≡ so_far next ++ rows ws t) → go_on s n (λ next. read next (n + 1) ws t) (closed ls n ws t) ≡ accepted now → lines now ≡ so_far ls ++ rows (l ∷ ws) t
unfolding LineToldBy rows so_far
step_back ls now n l ws t (keeps next) h ih e =
    ih next e ∙ ap (λ x. x ++ rows ws t) h ∙ append_assoc (so_far ls) (l ++ (10 ∷ [])) (rows ws t)
    ∙ ap (λ x. so_far ls ++ x) (sym (append_assoc (l ++ (10 ∷ [])) (flat_map (λ w. w ++ (10 ∷ [])) ws) t))
step_back ls now n l ws t ends h ih e =
    let c = closed_back ls now n ws t e in
    ap lines (sym c.1)
    ∙ sym (append_assoc (flat_map label_line ls.labels) (flat_map contents_line ls.contents) (line (end_frame ls)))
    ∙ ap (λ x. so_far ls ++ x) (h ∙ sym (append-nil _) ∙ ap (λ x. (l ++ (10 ∷ [])) ++ x) (sym c.0) ∙ sym (append_assoc (l ++ (10 ∷ [])) (flat_map (λ w. w ++ (10 ∷ [])) ws) t))
step_back ls now n l ws t (wrong c) h ih e = clash cc

read_back : (ws : List (List ℕ)) (ls now : Lists) (n : ℕ) (t : List ℕ) → read ls n ws t ≡ accepted now → lines now ≡ so_far ls ++ rows ws t
read_back [] ls now n t e = clash cc
read_back (l ∷ ws) ls now n t e = step_back ls now n l ws t (line_step ls l) (line_told_by ls l _ refl) (λ next. read_back ws next now (n + 1) t) e

pub saves_again : (bs : List ℕ) (ls : Lists) → loaded bs ≡ accepted ls → lines ls ≡ bs
unfolding rows so_far
saves_again bs ls e = read_back (split bs).whole no_entries ls 1 (split bs).rest e ∙ rejoined bs
