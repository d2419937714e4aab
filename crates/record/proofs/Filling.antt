-- What filling one entry leaves of the list.
use Rattle.std.proofs.Common.{◌≡◌, ℕ, zero, suc, ◌<◌, true, List, [], ◌∷◌, ◌++◌, map, length, get_or, set, Err, sym, refl, ap, ◌∙◌, arith}
use Rattle.std.proofs.lemmas.Bool.{cond-true}
use Rattle.numerals.specs.Numeral.{is_page}
use Rattle.record.specs.declared.error.EntryError.TheVariants.{NoPage}
use Rattle.record.specs.Naming.{name_bytes}
use Rattle.record.specs.Positions.{Position, Label}
use Rattle.record.specs.Labels.{with_position}
use Rattle.record.specs.Meaning.{label_of}
use Rattle.record.specs.Lists.{Lists, Answer, on_page, put_position, with_label}
use Rattle.record.specs.declared.entry.label.LabelEntry.{LabelEntry}
use Rattle.record.proofs.Whole.{lists_same}

-- w has taken the place of e, whose name it keeps
pub filled : (es : List LabelEntry) (i : ℕ) (e w : LabelEntry) → i < length es → e ≡ get_or es i e → w.name ≡ e.name → map label_of (set es i w) ≡ with_position (map label_of es) i (label_of w).position
filled [] i e w h r n = absurd (omega arith)
filled (x ∷ es) zero e w h r n =
    let named = n ∙ ap (λ y. y.name) r in
    λ k. record { name = name_bytes (named k); position = (label_of w).position } ∷ map label_of es
filled (x ∷ es) (suc i) e w h r n = ap (λ l. label_of x ∷ l) (filled es i e w (omega arith) r n)

-- the last of the labels is filled
pub last_filled : (ls : List Label) (l : Label) (p : Position) → with_position (ls ++ (l ∷ [])) (length ls) p ≡ ls ++ (record { name = l.name; position = p } ∷ [])
last_filled [] l p = refl
last_filled (x ∷ ls) l p = ap (λ r. x ∷ r) (last_filled ls l p)

-- a label is added blank and then filled
pub put_last : (ls : Lists) (l : Label) (p : Position) → put_position (with_label ls l) (length ls.labels) p ≡ with_label ls (record { name = l.name; position = p })
put_last ls l p = lists_same _ _ (last_filled ls.labels l p) refl

pub page_answer : (n : ℕ) (answer : Answer) → is_page n ≡ true → answer ≡ on_page n answer
page_answer n answer t = sym (cond-true (is_page n) answer (Err NoPage) t)
