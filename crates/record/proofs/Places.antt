-- The steps of the search for a name.
use Rattle.std.proofs.Common.{◌≡◌, ℕ, ◌+◌, Bool, true, false, ltb, cond, nat_eq, ◌&&◌, List, [], ◌∷◌, map, length, take, Some, None, Option, sym, refl, ap, ◌∙◌, add-zero, add_assoc, zero-add}
use Rattle.std.specs.List.{position_from, position_or_len}
use Rattle.std.proofs.lemmas.Iterator.Adapters.{position_from-zero}
use Rattle.std.specs.Cmp.Lexicographic.{pointwise}
use Rattle.std.specs.Str.{bytes_eq}
use Rattle.std.proofs.lemmas.Slice.Eq.{bytes_eq-Decides}
use Rattle.std.proofs.lemmas.Bool.Decides.{same_from_decides, Decides-like, Decides-and, Decides-eqb}
use Rattle.record.specs.Naming.{name_bytes}
use Rattle.record.specs.Labels.{later, place_of}
use Rattle.record.specs.Meaning.{label_of}
use Rattle.record.specs.declared.name.Name.{Name}
use Rattle.record.specs.declared.entry.label.LabelEntry.{LabelEntry}
use Rattle.record.specs.Same.{name_by_bytes}

-- whether a label's name is equal to a name, as the code tests it
abbrev pub named : Name → LabelEntry → Bool
named n e = pointwise nat_eq e.name.bytes n.bytes && nat_eq e.name.len n.len

-- equal names are those with equal bytes
named_is : (n : Name) (e : LabelEntry) → named n e ≡ bytes_eq (name_bytes e.name) (name_bytes n)
named_is n e =
    same_from_decides _ _
    (Decides-like _ (λ p i. take (p.1 i) (p.0 i)) (λ b. let s = name_by_bytes e.name n b in (ap (λ x. x.bytes) s, ap (λ x. x.len) s)) (Decides-and _ _ (bytes_eq-Decides e.name.bytes n.bytes) (Decides-eqb e.name.len n.len)))
    (bytes_eq-Decides (name_bytes e.name) (name_bytes n))

later_more : (n : ℕ) (o : Option ℕ) → later n (later 1 o) ≡ later (n + 1) o
later_more n None = refl
later_more n (Some i) = ap (λ k. Some k) (sym (add_assoc n 1 i))

later_none : (o : Option ℕ) → later 0 o ≡ o
later_none None = refl
later_none (Some i) = ap (λ k. Some k) (zero-add i)

here : (b : Bool) (i : ℕ) (p q : Option ℕ) → p ≡ later i (later 1 q) → cond b (Some i) p ≡ later i (cond b (Some 0) (later 1 q))
here true i p q e = ap (λ k. Some k) (sym (add-zero i))
here false i p q e = e

-- a search that has come to i
place_from : (n : Name) (i : ℕ) (es : List LabelEntry) → position_from (named n) i es ≡ later i (place_of (name_bytes n) (map label_of es))
place_from n i [] = refl
place_from n i (x ∷ es) =
    ap (λ b. cond b (Some i) (position_from (named n) (i + 1) es)) (named_is n x)
    ∙ here (bytes_eq (name_bytes x.name) (name_bytes n)) i _ _ (place_from n (i + 1) es ∙ sym (later_more i _))

pub place : (n : Name) (es : List LabelEntry) → cond (ltb (position_or_len (named n) es) (length es)) (Some (position_or_len (named n) es)) None ≡ place_of (name_bytes n) (map label_of es)
place n es = position_from-zero (named n) es ∙ place_from n 0 es ∙ later_none _
