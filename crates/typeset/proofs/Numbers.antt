-- How the numbers of headings go on: they stay numbers as long as there is room.
use Rattle.std.proofs.Common.{◌≡◌, ℕ, zero, suc, ◌+◌, ◌≤◌, Bool, true, false, cond, eqb, leb, List, [], ◌∷◌, codes, sym, refl, ap, ◌∙◌, subst, ⊎_elim, arith}
use Rattle.std.specs.List.{prefix_len}
use Rattle.std.specs.Str.{bytes_eq}
use Rattle.std.proofs.lemmas.Bool.{true≢false, cases_Bool, and_parts, leb-true, cond-true, cond-false, cond_both}
use Rattle.std.proofs.lemmas.Bool.Decides.{nat_tests}
use Rattle.compose.specs.Acts.{Number}
use Rattle.manuscript.specs.Rules.{asked, line_kept}
use Rattle.manuscript.specs.Scanning.{allowed, titled}
use Rattle.manuscript.specs.Standing.{heading, is_title}
use Rattle.numerals.specs.Sound.{number_ok}
use Rattle.numerals.specs.declared.counters.Counters.{Counters}
use Rattle.reader.specs.Kinds.{kind, hash, level}
use Rattle.reader.specs.Lines.{SourceLine}
use Rattle.reader.specs.declared.kinds.Kind.{Kind}
use Rattle.reader.specs.declared.kinds.Kind.TheVariants.{Heading, Directive, Remark, Text}
use Rattle.runs.specs.Run.{all}
use Rattle.typeset.specs.Items.{contents, page_break, passed_over, item_of, line_item}
use Rattle.typeset.specs.Numbering.{Room, risen, counted, number_after_lem}

pub risen_ok : (d : ℕ) (cs : Counters) → 1 ≤ d → d ≤ 3 → Room cs 1 → number_ok d (risen d cs) ≡ true
unfolding number_ok
risen_ok zero cs l h r = let no : ⊥ = omega arith in elim no [ ]
risen_ok (suc zero) cs l h r = grind (arith, nat_tests)
risen_ok (suc (suc zero)) cs l h r = grind (arith, nat_tests)
risen_ok (suc (suc (suc zero))) cs l h r = grind (arith, nat_tests)
risen_ok (suc (suc (suc (suc n)))) cs l h r = let no : ⊥ = omega arith in elim no [ ]

risen_room : (d : ℕ) (cs : Counters) (h : ℕ) → Room cs (1 + h) → Room (risen d cs) h
risen_room d cs h r =
    let P : Counters → Type 0 = λ c. Room c h in
    cond_both (eqb d 1) _ _ P (λ _. (omega arith, omega arith, omega arith)) (λ _. cond_both (eqb d 2) _ _ P (λ _. (omega arith, omega arith, omega arith)) (λ _. (omega arith, omega arith, omega arith)))

title_kind : (k : Kind) → heading k ≡ true → k ≡ Heading
title_kind Heading e = refl
title_kind Directive e = absurd (true≢false (sym e))
title_kind Remark e = absurd (true≢false (sym e))
title_kind Text e = absurd (true≢false (sym e))

no_title : (x y : Bool) → heading (cond x Directive (cond y Remark Text)) ≡ false
no_title true y = refl
no_title false true = refl
no_title false false = refl

-- a heading has one to three '#'
pub level_one : (l : List ℕ) → is_title l ≡ true → 1 ≤ level l
level_one [] e = absurd (true≢false (sym e))
level_one (b ∷ bs) e =
    ⊎_elim
    (λ t. omega (arith, cond-true (hash b) (1 + prefix_len hash bs) 0 t))
    (λ f. absurd (true≢false (sym e ∙ ap heading (cond-false (eqb b 35) Heading _ f) ∙ no_title (eqb b 33) (eqb b 37))))
    (cases_Bool (eqb b 35))

pub level_three : (l : SourceLine) → line_kept l ≡ true → is_title l.bytes ≡ true → level l.bytes ≤ 3
level_three l e t =
    let more = (and_parts (all allowed l.bytes) _ e).1 in
    let right = (and_parts (asked (kind l.bytes) l.bytes) _ more).0 in
    let good : titled l.bytes ≡ true = subst (λ (k : Kind). asked k l.bytes ≡ true) (title_kind (kind l.bytes) t) right in
    leb-true (level l.bytes) 3 (and_parts (leb (level l.bytes) 3) _ good).0

-- a directive counts nothing
directed : (a b : Bool) (n : ℕ) (k : Number) → number_after_lem k (cond a (contents n) (cond b page_break passed_over)) ≡ k
directed true b n k = refl
directed false true n k = refl
directed false false n k = refl

pub number_kept : (x : Kind) (l : SourceLine) (k : Number) → heading x ≡ false → number_after_lem k (item_of x l) ≡ k
number_kept Heading l k e = absurd (true≢false e)
number_kept Directive l k e = directed (bytes_eq l.bytes (codes "!contents")) (bytes_eq l.bytes (codes "!page")) l.number k
number_kept Remark l k e = refl
number_kept Text l k e = refl

pub number_risen : (x : Kind) (l : SourceLine) (k : Number) → heading x ≡ true → number_after_lem k (item_of x l) ≡ counted (level l.bytes) k
number_risen Heading l k e = refl
number_risen Directive l k e = absurd (true≢false (sym e))
number_risen Remark l k e = absurd (true≢false (sym e))
number_risen Text l k e = absurd (true≢false (sym e))

room_by : (b : Bool) (x : Kind) (l : SourceLine) (k : Number) (h : ℕ) → heading x ≡ b → Room k.counters (cond b 1 0 + h) → Room (number_after_lem k (item_of x l)).counters h
room_by true x l k h e r = subst (λ (m : Number). Room m.counters h) (sym (number_risen x l k e)) (risen_room (level l.bytes) k.counters h r)
room_by false x l k h e r = subst (λ (m : Number). Room m.counters h) (sym (number_kept x l k e)) (omega arith, omega arith, omega arith)

-- one line more, and one heading less to come where it is one
pub room_after : (l : SourceLine) (k : Number) (h : ℕ) → Room k.counters (cond (is_title l.bytes) 1 0 + h) → Room (number_after_lem k (line_item l)).counters h
room_after l k h r = room_by (is_title l.bytes) (kind l.bytes) l k h refl r
