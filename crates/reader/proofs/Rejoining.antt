-- The lines of a text give it back.
use Rattle.std.proofs.Common.{◌≡◌, ℕ, zero, suc, ◌+◌, ◌<◌, ◌≤◌, ◌⊎◌, List, [], ◌∷◌, ◌++◌, length, get_or, take, drop, sym, refl, ap, ◌∙◌, subst, inl, inr, ⊎_elim, append_assoc, arith, length-drop, take-append-drop, length-take-le, drop-drop}
use Rattle.std.specs.List.{prefix_len, AllByRecursion}
use Rattle.std.proofs.lemmas.List.{drop_all, drop_more, take_all}
use Rattle.std.proofs.lemmas.List.Sums.{prefix_len-le-length}
use Rattle.std.proofs.lemmas.Bool.{cases_lt, eqb-true, not-false}
use Rattle.reader.specs.Lines.{in_line, SourceLine, lines_from}
use Rattle.reader.specs.Laws.{unlines, Rejoined, LineStands, LinesLaw}
use Rattle.runs.proofs.Fronts.{stops_at, all_front}
use Rattle.reader.proofs.Laws.{lines_at}

-- the lines from a place of a text on
abbrev From : List ℕ → ℕ → ℕ → Type 0
From t n i = Rejoined (lines_from n i (drop i t)) (drop i t) × AllByRecursion (LineStands t) (lines_from n i (drop i t))

ended : (t : List ℕ) (n i : ℕ) → length t ≤ i → From t n i
ended t n i h = subst (λ x. Rejoined (lines_from n i x) x × AllByRecursion (LineStands t) (lines_from n i x)) (sym (drop_all i t h)) (inl refl, tt)

-- a line that has its newline, and a last one that lacks it
newline : (t : List ℕ) (i m : ℕ) → m ≡ prefix_len in_line (drop i t) → i + m < length t → take m (drop i t) ++ (10 ∷ drop (i + m + 1) t) ≡ drop i t
newline t i m e h =
    let ten : get_or t (i + m) 0 ≡ 10 = eqb-true (get_or t (i + m) 0) 10 (not-false _ (stops_at in_line t i m e h)) in
    ap (λ b. take m (drop i t) ++ (b ∷ drop (i + m + 1) t)) (sym ten)
    ∙ ap (λ x. take m (drop i t) ++ x) (sym (drop_more t (i + m) 0 h) ∙ sym (drop-drop m i t))
    ∙ take-append-drop m (drop i t)

joins : (a y x : List ℕ) (ls : List SourceLine) → a ++ (10 ∷ y) ≡ x → Rejoined ls y → (a ++ (10 ∷ unlines ls) ≡ x) ⊎ (a ++ (10 ∷ unlines ls) ≡ x ++ 10 ∷ [])
joins a y x ls whole r =
    ⊎_elim
    (λ e. inl (ap (λ z. a ++ (10 ∷ z)) e ∙ whole))
    (λ e. inr (ap (λ z. a ++ (10 ∷ z)) e ∙ sym (append_assoc a (10 ∷ y) (10 ∷ [])) ∙ ap (λ z. z ++ 10 ∷ []) whole))
    r

step : (t : List ℕ) (n i : ℕ) → i < length t → From t (n + 1) (i + prefix_len in_line (drop i t) + 1) → From t n i
step t n i h rest =
    let x = drop i t in
    let m = prefix_len in_line x in
    let fits : m ≤ length x = prefix_len-le-length in_line x in
    let long : length (take m x) ≡ m = length-take-le m x fits in
    let after = drop (i + m + 1) t in
    let ls = lines_from (n + 1) (i + m + 1) after in
    let joined : (take m x ++ (10 ∷ unlines ls) ≡ x) ⊎ (take m x ++ (10 ∷ unlines ls) ≡ x ++ 10 ∷ []) =
    ⊎_elim
    (λ l. joins (take m x) after x ls (newline t i m refl l) rest.0)
    (λ l.
    let none : after ≡ [] = drop_all (i + m + 1) t (omega arith) in
    inr (ap (λ z. take m x ++ (10 ∷ unlines (lines_from (n + 1) (i + m + 1) z))) none ∙ ap (λ z. z ++ 10 ∷ []) (take_all m x (omega (arith, length-drop i t)))))
    (cases_lt (i + m) (length t)) in
    let stands : LineStands t (record { number = n; offset = i; bytes = take m x }) = (all_front in_line x m refl, ap (λ k. take k x) long) in
    subst (λ l. Rejoined l x × AllByRecursion (LineStands t) l) (sym (lines_at t n i h)) (joined, (stands, rest.1))

from : (k : ℕ) (t : List ℕ) (n i : ℕ) → length t ≤ i + k → From t n i
from zero t n i h = ended t n i (omega arith)
from (suc k) t n i h =
    ⊎_elim
    (λ l. step t n i l (from k t (n + 1) (i + prefix_len in_line (drop i t) + 1) (omega arith)))
    (λ l. ended t n i l)
    (cases_lt i (length t))

pub lines_law : (t : List ℕ) → LinesLaw t
lines_law t = from (length t) t 1 0 (omega arith)
