-- What saving writes loads as the same lists.
use Rattle.std.proofs.Common.{◌≡◌, ℕ, suc, ◌+◌, ◌/◌, ◌%◌, ◌<◌, ◌≤◌, true, false, eqb, ltb, leb, List, [], ◌∷◌, ◌++◌, length, is_ok, Some, Ok, Err, Result, sym, refl, ap, ◌∙◌, subst, append_assoc, append-nil, add-zero, div-add-mod', arith, length-append, take_at, drop_at}
use Rattle.std.specs.List.{flat_map, AllByRecursion}
use Rattle.std.proofs.lemmas.Bool.{cond-true, cond_both, and_parts, and_from, eq-eqb, ne_eqb, le-leb, leb-true}
use Rattle.names.specs.Name.{naming}
use Rattle.names.specs.declared.NameError.{NameError}
use Rattle.names.specs.declared.NameError.TheVariants.{WrongLength, WrongCharacter}
use Rattle.numerals.specs.Numeral.{is_page}
use Rattle.numerals.specs.Sound.{number_ok}
use Rattle.numerals.proofs.Lengths.{level_bound, counters_bound}
use Rattle.record.specs.Right.{name_ok}
use Rattle.record.specs.Positions.{Position, Label, position_ok, label_ok, heading_ok}
use Rattle.record.specs.Labels.{distinct}
use Rattle.record.specs.Lists.{Lists, with_label, with_heading}
use Rattle.record.proofs.Padding.{name_length, name_bytes_small}
use Rattle.record.proofs.Apart.{absent_before}
use Rattle.recordlines.specs.Hex.{hex, hex_digit_lem}
use Rattle.recordlines.specs.Frame.{position_bytes_lem, label_frame, contents_frame, end_frame, line, label_line, contents_line, lines}
use Rattle.recordlines.specs.Step.{keeps, ends, position_from, name_sized, sized, label_fits, heading_fits, label_step, contents_step, step, decoded, frame_step, line_step}
use Rattle.recordlines.specs.Load.{Outcome, accepted, split, Text, read, closed, go_on, loaded}
use Rattle.recordlines.proofs.Joining.{length_hex}
use Rattle.recordlines.proofs.Digits.{Byte, spells_bytes}
use Rattle.recordlines.proofs.Splitting.{split_line}
use Rattle.recordlines.proofs.Stepping.{label_fit, heading_fit}

digit_inside : (v : ℕ) → eqb (hex_digit_lem v) 10 ≡ false
digit_inside v =
    let P : ℕ → Type 0 = λ x. 48 ≤ x in
    let big : 48 ≤ hex_digit_lem v = cond_both (ltb v 10) (48 + v) (55 + v) P (λ _. omega arith) (λ _. omega arith) in
    ne_eqb _ 10 (λ e. omega arith)

hex_inside : (f : List ℕ) → AllByRecursion (λ d. eqb d 10 ≡ false) (hex f)
hex_inside [] = tt
hex_inside (b ∷ f) = (digit_inside (b / 16), (digit_inside (b % 16), hex_inside f))

-- reading bytes from the n-th line on
reading : Lists → ℕ → List ℕ → Outcome
reading ls n bs = read ls n (split bs).whole (split bs).rest

abbrev FrameLike : List ℕ → Type 0
FrameLike f = AllByRecursion Byte f × (length f ≤ 24)

one_line : (ls : Lists) (n : ℕ) (f rest : List ℕ) → FrameLike f → reading ls n (line f ++ rest) ≡ go_on (step ls f) n (λ now. reading now (n + 1) rest) (closed ls n (split rest).whole (split rest).rest)
unfolding reading line_step
one_line ls n f rest h =
    let parts = ap split (append_assoc (hex f) (10 ∷ []) rest) ∙ split_line (hex f) rest (hex_inside f) in
    let told : decoded (hex f) ≡ Some f = cond-true _ _ _ (le-leb (length (hex f)) 48 (omega (arith, length_hex f, h.1))) ∙ spells_bytes f h.0 in
    ap (λ (t : Text). read ls n t.whole t.rest) parts
    ∙ ap (λ o. go_on (frame_step ls o) n (λ now. reading now (n + 1) rest) (closed ls n (split rest).whole (split rest).rest)) told

position_forth : (p : Position) → position_from (position_bytes_lem p) ≡ Some p
position_forth p = λ i. Some (record { level = p.level; counters = p.counters; page = div-add-mod' p.page 256 i })

position_like : (p : Position) → position_ok p ≡ true → AllByRecursion Byte (position_bytes_lem p)
position_like p e =
    let q = and_parts (number_ok p.level p.counters) (is_page p.page) e in
    let l = level_bound _ _ q.0 in
    let c = counters_bound _ _ q.0 in
    let top = leb-true p.page 999 (and_parts (leb 1 p.page) _ q.1).1 in
    (omega arith, (omega (arith, c.0), (omega (arith, c.1), (omega (arith, c.2), (omega arith, (omega arith, tt))))))

all_both : (xs ys : List ℕ) → AllByRecursion Byte xs → AllByRecursion Byte ys → AllByRecursion Byte (xs ++ ys)
all_both [] ys h k = k
all_both (x ∷ xs) ys h k = (h.0, all_both xs ys h.1 k)

label_like : (l : Label) → label_ok l ≡ true → FrameLike (label_frame l)
label_like l e =
    let q = and_parts (name_ok l.name) (position_ok l.position) e in
    let n = name_length l.name q.0 in
    let long = length-append l.name (position_bytes_lem l.position) in
    ((omega arith, (omega (arith, n.1), all_both _ _ (name_bytes_small l.name q.0) (position_like l.position q.1))), omega (arith, n.1))

right_sized : (v : Result (Unit {0}) NameError) → is_ok v ≡ true → sized v ≡ true
right_sized (Ok u) e = refl
right_sized (Err WrongLength) e = e
right_sized (Err WrongCharacter) e = refl

name_right_sized : (bs : List ℕ) → name_ok bs ≡ true → name_sized bs ≡ true
unfolding name_ok name_sized
name_right_sized bs e = right_sized (naming bs) e

label_steps : (ls : Lists) (l : Label) → ls.contents ≡ [] → label_ok l ≡ true → label_fits ls l ≡ true → step ls (label_frame l) ≡ keeps (with_label ls l)
label_steps ls l none ok fits =
    let n = l.name in
    let pb = position_bytes_lem l.position in
    let sized = name_right_sized n (and_parts (name_ok n) _ ok).0 in
    (λ i. label_step ls (take_at n pb (length n) refl i) (position_from (drop_at n pb (length n) refl i)))
    ∙ ap (label_step ls n) (position_forth l.position)
    ∙ cond-true _ _ _ (and_from _ _ sized (eq-eqb _ 0 (ap length none)))
    ∙ cond-true _ _ _ fits

-- a frame that adds an entry, and then the others
goes_on : (ls now : Lists) (n : ℕ) (f more rest : List ℕ) → FrameLike f → step ls f ≡ keeps now → reading ls n ((line f ++ more) ++ rest) ≡ reading now (n + 1) (more ++ rest)
goes_on ls now n f more rest h e =
    ap (reading ls n) (append_assoc (line f) more rest) ∙ one_line ls n f (more ++ rest) h
    ∙ ap (λ s. go_on s n (λ next. reading next (n + 1) (more ++ rest)) (closed ls n (split (more ++ rest)).whole (split (more ++ rest)).rest)) e

abbrev labelled : List Label → Lists
labelled xs = record { labels = xs; contents = [] }

labels_forth : (todo done : List Label) (n : ℕ) (rest : List ℕ) → AllByRecursion (λ l. label_ok l ≡ true) todo → distinct (done ++ todo) ≡ true → length (done ++ todo) ≤ 128 → reading (labelled done) n (flat_map label_line todo ++ rest) ≡ reading (labelled (done ++ todo)) (n + length todo) rest
labels_forth [] done n rest ok apart few = λ i. reading (labelled (sym (append-nil done) i)) (sym (add-zero n) i) rest
labels_forth (l ∷ todo) done n rest ok apart few =
    let long = length-append done (l ∷ todo) in
    let room : length done < 128 = omega arith in
    let fits = label_fit (labelled done) l ok.0 (absent_before done l todo apart, room) in
    let regroup = append_assoc done (l ∷ []) todo in
    let far : n + 1 + length todo ≡ n + suc (length todo) = omega arith in
    goes_on (labelled done) (with_label (labelled done) l) n (label_frame l) (flat_map label_line todo) rest (label_like l ok.0) (label_steps (labelled done) l refl ok.0 fits)
    ∙ labels_forth todo (done ++ (l ∷ [])) (n + 1) rest ok.1 (ap distinct regroup ∙ apart) (subst (λ k. k ≤ 128) (sym (ap length regroup)) few)
    ∙ (λ i. reading (labelled (regroup i)) (far i) rest)

contents_like : (p : Position) → heading_ok p ≡ true → FrameLike (contents_frame p)
contents_like p e = ((omega arith, position_like p (and_parts (leb 1 p.level) _ e).1), omega arith)

contents_steps : (ls : Lists) (p : Position) → heading_fits ls p ≡ true → step ls (contents_frame p) ≡ keeps (with_heading ls p)
contents_steps ls p fits = ap (contents_step ls) (position_forth p) ∙ cond-true _ _ _ fits

abbrev with_contents : List Label → List Position → Lists
with_contents ls ps = record { labels = ls; contents = ps }

contents_forth : (ls : List Label) (todo done : List Position) (n : ℕ) (rest : List ℕ) → AllByRecursion (λ p. heading_ok p ≡ true) todo → length (done ++ todo) ≤ 128 → reading (with_contents ls done) n (flat_map contents_line todo ++ rest) ≡ reading (with_contents ls (done ++ todo)) (n + length todo) rest
contents_forth ls [] done n rest ok few = λ i. reading (with_contents ls (sym (append-nil done) i)) (sym (add-zero n) i) rest
contents_forth ls (p ∷ todo) done n rest ok few =
    let now = with_contents ls done in
    let long = length-append done (p ∷ todo) in
    let room : length done < 128 = omega arith in
    let regroup = append_assoc done (p ∷ []) todo in
    let far : n + 1 + length todo ≡ n + suc (length todo) = omega arith in
    goes_on now (with_heading now p) n (contents_frame p) (flat_map contents_line todo) rest (contents_like p ok.0) (contents_steps now p (heading_fit now p ok.0 room))
    ∙ contents_forth ls todo (done ++ (p ∷ [])) (n + 1) rest ok.1 (subst (λ k. k ≤ 128) (sym (ap length regroup)) few)
    ∙ (λ i. reading (with_contents ls (regroup i)) (far i) rest)

end_forth : (ls : Lists) (n : ℕ) → length ls.labels ≤ 128 → length ls.contents ≤ 128 → reading ls n (line (end_frame ls)) ≡ accepted ls
end_forth ls n a b =
    let like : FrameLike (end_frame ls) = ((omega arith, (omega arith, (omega arith, tt))), omega arith) in
    let told : step ls (end_frame ls) ≡ ends = cond-true _ _ _ (and_from _ _ (eq-eqb (length ls.labels) _ refl) (eq-eqb (length ls.contents) _ refl)) in
    ap (reading ls n) (sym (append-nil (line (end_frame ls)))) ∙ one_line ls n (end_frame ls) [] like
    ∙ ap (λ s. go_on s n (λ next. reading next (n + 1) []) (accepted ls)) told

pub loads_again_lem : (ls : Lists) → AllByRecursion (λ l. label_ok l ≡ true) ls.labels → AllByRecursion (λ p. heading_ok p ≡ true) ls.contents → distinct ls.labels ≡ true → length ls.labels ≤ 128 → length ls.contents ≤ 128 → loaded (lines ls) ≡ accepted ls
unfolding reading
loads_again_lem ls labels contents apart a b =
    labels_forth ls.labels [] 1 (flat_map contents_line ls.contents ++ line (end_frame ls)) labels apart a
    ∙ contents_forth ls.labels ls.contents [] (1 + length ls.labels) (line (end_frame ls)) contents b
    ∙ end_forth ls (1 + length ls.labels + length ls.contents) a b
