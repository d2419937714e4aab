-- The first line of a text, and a text put together again from its lines.
use Rattle.std.proofs.Common.{◌≡◌, ℕ, suc, ◌+◌, ◌-◌, ◌<◌, ◌≤◌, Bool, false, cond, not, eqb, List, [], ◌∷◌, ◌++◌, length, take, drop, sym, refl, ap, ◌∙◌, subst, ⊎_elim, add-one, one-add, arith, length-drop}
use Rattle.std.specs.List.{prefix_len, flat_map, AllByRecursion}
use Rattle.std.proofs.lemmas.List.{take_rest}
use Rattle.std.proofs.lemmas.Bool.{cases_Bool, eqb-true}
use Rattle.faults.specs.Faults.{in_line_lem}
use Rattle.faults.specs.declared.cause.Cause.TheVariants.{FrameMalformed}
use Rattle.record.specs.Lists.{Lists}
use Rattle.recordlines.specs.Load.{Text, split, longer, Outcome, refused, closed, read, go_on}
use Rattle.recordlines.specs.Step.{ends, line_step}

abbrev inside : ℕ → Bool
inside b = not (eqb b 10)

abbrev text : List (List ℕ) → List ℕ → Text
text w r = record { whole = w; rest = r }

-- the text of a byte and what follows it, by whether the byte is a newline
abbrev grown : Bool → ℕ → Text → Text
grown c b t = cond c (text ([] ∷ t.whole) t.rest) (longer b t.whole t.rest)

count : Bool → ℕ → ℕ
count c n = cond (not c) (1 + n) 0

all_inside : (bs : List ℕ) → length bs ≤ prefix_len inside bs → split bs ≡ text [] bs
unfolding count
all_inside [] h = refl
all_inside (b ∷ bs) h =
    ⊎_elim
    (λ e. absurd (let z : prefix_len inside (b ∷ bs) ≡ 0 = ap (λ c. count c (prefix_len inside bs)) e in omega arith))
    (λ e.
    let z : prefix_len inside (b ∷ bs) ≡ suc (prefix_len inside bs) = ap (λ c. count c (prefix_len inside bs)) e ∙ one-add _ in
    let ih = all_inside bs (omega arith) in
    ap (λ c. grown c b (split bs)) e ∙ ap (λ t. longer b t.whole t.rest) ih)
    (cases_Bool (eqb b 10))

first_line : (bs : List ℕ) → prefix_len inside bs < length bs → split bs ≡ text (take (prefix_len inside bs) bs ∷ (split (drop (suc (prefix_len inside bs)) bs)).whole) (split (drop (suc (prefix_len inside bs)) bs)).rest
unfolding count
first_line [] h = absurd (omega arith)
first_line (b ∷ bs) h =
    let goal : ℕ → Type 0 = λ n. split (b ∷ bs) ≡ text (take n (b ∷ bs) ∷ (split (drop (suc n) (b ∷ bs))).whole) (split (drop (suc n) (b ∷ bs))).rest in
    ⊎_elim
    (λ e.
    let z : prefix_len inside (b ∷ bs) ≡ 0 = ap (λ c. count c (prefix_len inside bs)) e in
    subst goal (sym z) (ap (λ c. grown c b (split bs)) e))
    (λ e.
    let z : prefix_len inside (b ∷ bs) ≡ suc (prefix_len inside bs) = ap (λ c. count c (prefix_len inside bs)) e ∙ one-add _ in
    let ih = first_line bs (omega arith) in
    subst goal (sym z) (ap (λ c. grown c b (split bs)) e ∙ ap (λ t. longer b t.whole t.rest) ih))
    (cases_Bool (eqb b 10))

pub no_newline : (bs : List ℕ) (n : ℕ) → n ≡ prefix_len inside bs → length bs ≤ n → split bs ≡ record { whole = []; rest = bs }
no_newline bs n e h = all_inside bs (omega arith)

-- as the parts `[..n]` and `[n + 1..]` read
pub next_line_lem : (bs : List ℕ) (n : ℕ) → n ≡ prefix_len inside bs → n < length bs → (split bs ≡ record { whole = take n bs ∷ (split (take (length bs - (n + 1)) (drop (n + 1) bs))).whole; rest = (split (take (length bs - (n + 1)) (drop (n + 1) bs))).rest }) × (length (take (length bs - (n + 1)) (drop (n + 1) bs)) < length bs)
next_line_lem bs n e h =
    let rest = take_rest bs (n + 1) ∙ ap (λ k. drop k bs) (add-one n ∙ ap suc e) in (
      first_line bs (omega arith) ∙ sym (λ i. record { whole = take (e i) bs ∷ (split (rest i)).whole; rest = (split (rest i)).rest }),
      omega (arith, ap length (take_rest bs (n + 1)), length-drop (n + 1) bs),
    )

glue : Text → List ℕ
glue t = flat_map (λ l. l ++ (10 ∷ [])) t.whole ++ t.rest

longer_glue : (b : ℕ) (w : List (List ℕ)) (r : List ℕ) → glue (longer b w r) ≡ b ∷ glue (text w r)
unfolding glue
longer_glue b [] r = refl
longer_glue b (l ∷ w) r = refl

-- the lines with their newlines, and what comes after
pub rejoined : (bs : List ℕ) → flat_map (λ l. l ++ (10 ∷ [])) (split bs).whole ++ (split bs).rest ≡ bs
unfolding glue
rejoined [] = refl
rejoined (b ∷ bs) =
    ⊎_elim
    (λ e. ap (λ c. glue (grown c b (split bs))) e ∙ (λ i. sym (eqb-true b 10 e) i ∷ rejoined bs i))
    (λ e. ap (λ c. glue (grown c b (split bs))) e ∙ longer_glue b (split bs).whole (split bs).rest ∙ ap (λ l. b ∷ l) (rejoined bs))
    (cases_Bool (eqb b 10))

-- digits up to a newline are a line
pub split_line : (ds rest : List ℕ) → AllByRecursion (λ d. eqb d 10 ≡ false) ds → split (ds ++ (10 ∷ rest)) ≡ record { whole = ds ∷ (split rest).whole; rest = (split rest).rest }
split_line [] rest h = refl
split_line (d ∷ ds) rest h =
    ap (λ c. grown c d (split (ds ++ (10 ∷ rest)))) h.0 ∙ ap (λ t. longer d t.whole t.rest) (split_line ds rest h.1)

shut : Lists → ℕ → Text → Outcome
shut ls n t = closed ls n t.whole t.rest

longer_shut : (ls : Lists) (n b : ℕ) (w : List (List ℕ)) (r : List ℕ) → shut ls n (longer b w r) ≡ refused (in_line_lem FrameMalformed (n + 1))
unfolding shut
longer_shut ls n b [] r = refl
longer_shut ls n b (l ∷ w) r = refl

-- after the end frame only nothing is right
pub not_closed : (ls : Lists) (n : ℕ) (bs : List ℕ) → (length bs ≡ 0 → ⊥) → closed ls n (split bs).whole (split bs).rest ≡ refused (in_line_lem FrameMalformed (n + 1))
unfolding shut
not_closed ls n [] h = absurd (h refl)
not_closed ls n (b ∷ bs) h =
    ⊎_elim
    (λ e. ap (λ c. shut ls n (grown c b (split bs))) e)
    (λ e. ap (λ c. shut ls n (grown c b (split bs))) e ∙ longer_shut ls n b (split bs).whole (split bs).rest)
    (cases_Bool (eqb b 10))

-- where a line is the end frame, what follows it decides
pub end_read : (ls : Lists) (n : ℕ) (digits bs more : List ℕ) → split bs ≡ record { whole = digits ∷ (split more).whole; rest = (split more).rest } → line_step ls digits ≡ ends → read ls n (split bs).whole (split bs).rest ≡ closed ls n (split more).whole (split more).rest
end_read ls n digits bs more e h =
    ap (λ (t : Text). read ls n t.whole t.rest) e
    ∙ ap (λ s. go_on s n (λ next. read next (n + 1) (split more).whole (split more).rest) (closed ls n (split more).whole (split more).rest)) h
