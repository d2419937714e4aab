-- The labels of a record are those of its words.
use Rattle.std.proofs.Common.{◌≡◌, ℕ, Bool, true, false, cond, not, ◌&&◌, ◌||◌, List, [], ◌∷◌, map, is_some, Some, None, Option, sym, refl, ap, ◌∙◌, subst, arith}
use Rattle.std.specs.Str.{bytes_eq}
use Rattle.compose.specs.Acts.{Part, plain, label, heading, page_reference, number_reference, contents}
use Rattle.layout.specs.Meaning.{Meaning}
use Rattle.layout.specs.Spots.{page_of}
use Rattle.record.specs.Labels.{later, place_of, distinct}
use Rattle.record.specs.Lists.{Lists}
use Rattle.record.specs.Positions.{Label}
use Rattle.setting.specs.Tracing.{SetWord, Trace, all, upto, trace}
use Rattle.findings.specs.Made.{entered, made}
use Rattle.findings.specs.Next.{found, concluded}
use Rattle.findings.specs.Fitting.{parts, named, names_in, among, apart}
use Rattle.findings.specs.Laws.{NamesTold, NamesFound, LabelsApart}
use Rattle.findings.proofs.Parts.{parts_of, HasParts, has_parts}

abbrev names : List Label → List (List ℕ)
names ls = map (λ (l : Label). l.name) ls

names_entered : (p : Part) (page : ℕ) (ls : Lists) (ns : List (List ℕ)) → names ls.labels ≡ ns → names (entered p page ls).labels ≡ named p ns
names_entered plain page ls ns h = h
names_entered (label n k) page ls ns h = ap (λ l. n ∷ l) h
names_entered (heading k) page ls ns h = h
names_entered (page_reference n b a) page ls ns h = h
names_entered (number_reference n b a) page ls ns h = h
names_entered contents page ls ns h = h

pub names_made : (ws : List SetWord) → names (made ws).labels ≡ names_in (parts_of ws)
names_made [] = refl
names_made (w ∷ ws) = names_entered w.part (page_of w.spot) (made ws) _ (names_made ws)

names_concluded : {P : Type 0} (v : Trace P) (ps : List Part) (ls : Lists) (n : ℕ) → HasParts v ps → concluded v ≡ found ls n → names ls.labels ≡ names_in ps
names_concluded (all ws q) ps ls n h e =
    let same : made ws ≡ ls = cc in
    ap (λ (l : Lists). names l.labels) (sym same) ∙ names_made ws ∙ ap names_in h
names_concluded (upto ws q f) ps ls n h e = absurd (let z : ◌≡◌ {A = ℕ} 0 1 = cc in omega arith)

none_or_some : (b : Bool) (o : Option ℕ) (a : Bool) → is_some o ≡ a → is_some (cond b (Some 0) (later 1 o)) ≡ (b || a)
none_or_some true o a e = refl
none_or_some false None a e = e
none_or_some false (Some i) a e = e

place_among : (n : List ℕ) (ls : List Label) → is_some (place_of n ls) ≡ among n (names ls)
place_among n [] = refl
place_among n (l ∷ ls) = none_or_some (bytes_eq l.name n) (place_of n ls) _ (place_among n ls)

pub distinct_apart : (ls : List Label) → distinct ls ≡ apart (names ls)
distinct_apart [] = refl
distinct_apart (l ∷ ls) = (λ i. not (place_among l.name ls i) && distinct_apart ls i)

pub names_told : {L Mark : Type 0} (m : Meaning L Mark) → NamesTold m
names_told m s pass acts ws q e =
    let P : Trace m.Place → Type 0 = λ v. HasParts v (parts acts) in
    names_made ws ∙ ap names_in (subst P e (has_parts m s pass acts (m.opening s)))

pub names_found : {L Mark : Type 0} (m : Meaning L Mark) → NamesFound m
names_found m s pass acts ls n e = names_concluded (trace m s pass (m.opening s) acts) (parts acts) ls n (has_parts m s pass acts (m.opening s)) e

pub labels_apart : {L Mark : Type 0} (m : Meaning L Mark) → LabelsApart m
labels_apart m s pass acts ls n h e = distinct_apart ls.labels ∙ ap apart (names_found m s pass acts ls n e) ∙ h
