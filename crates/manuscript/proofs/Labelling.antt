-- Every text that passes the check is labelled.
use Rattle.std.proofs.Common.{◌≡◌, ℕ, zero, suc, ◌+◌, ◌<◌, ◌≤◌, Bool, true, false, cond, ◌&&◌, ◌||◌, ltb, ◌⊎◌, List, [], ◌∷◌, ◌++◌, length, is_ok, IfOk, Some, None, Ok, Err, codes, Option, Result, sym, refl, ap, ◌∙◌, subst, inl, inr, ⊎_elim, append_assoc, arith}
use Rattle.std.specs.Str.{bytes_eq}
use Rattle.std.proofs.lemmas.Slice.Eq.{bytes_eq-Decides}
use Rattle.std.proofs.lemmas.List.{append-nil}
use Rattle.std.proofs.lemmas.Bool.{cond-true, cond-false, cases_Bool, not-false}
use Rattle.faults.specs.declared.fault.Fault.{Fault}
use Rattle.faults.specs.declared.fault.Span.{Span}
use Rattle.marks.specs.Parts.{Parts, parts}
use Rattle.marks.specs.declared.mark.Mark.{Mark}
use Rattle.marks.specs.declared.mark.Mark.TheVariants.{Label, Page, Number}
use Rattle.reader.specs.Kinds.{kind, line_words}
use Rattle.reader.specs.Lines.{SourceLine, lines}
use Rattle.reader.specs.Words.{SourceWord}
use Rattle.reader.specs.declared.kinds.Kind.{Kind}
use Rattle.reader.specs.declared.kinds.Kind.TheVariants.{Heading, Directive, Remark, Text}
use Rattle.manuscript.specs.Standing.{Marking, marking, word_marks, line_marks, text_marks, marks, among, is_title, unmet_by, unmet, dangling}
use Rattle.manuscript.specs.Scanning.{Seen, nothing, then, defined, marked_by, noted, titled, entered, scan_words, scan_line, scan_lines}
use Rattle.manuscript.specs.Checking.{unless, resolved, checked}
use Rattle.manuscript.specs.declared.counts.Counts.{Counts}
use Rattle.manuscript.specs.Labelled.{is_label, definitions, named, Labelled}

-- how often a name stands among names
abbrev pub occurs : List ℕ → List (List ℕ) → ℕ
occurs n [] = 0
occurs n (m ∷ ms) = cond (bytes_eq m n) 1 0 + occurs n ms

abbrev pub Once : List (List ℕ) → Type 0
Once names = (n : List ℕ) → occurs n names ≤ 1

-- the names that marks define
abbrev pub labels_of : List Marking → List (List ℕ)
labels_of [] = []
labels_of (m ∷ ms) = cond (is_label m.mark) (m.name ∷ labels_of ms) (labels_of ms)

put_append : (b : Bool) (x : List ℕ) (l m n : List (List ℕ)) → l ≡ m ++ n → cond b (x ∷ l) l ≡ cond b (x ∷ m) m ++ n
put_append true x l m n e = ap (λ k. x ∷ k) e
put_append false x l m n e = e

pub labels_append : (xs ys : List Marking) → labels_of (xs ++ ys) ≡ labels_of xs ++ labels_of ys
labels_append [] ys = refl
labels_append (x ∷ xs) ys = put_append (is_label x.mark) _ _ _ _ (labels_append xs ys)

-- defining a name is standing among the labels' names
put_count : (b c : Bool) (n m : List ℕ) (k : ℕ) (l : List (List ℕ)) → k ≡ occurs n l → bytes_eq m n ≡ c → cond (b && c) 1 0 + k ≡ occurs n (cond b (m ∷ l) l)
put_count true c n m k l e s = λ i. cond (sym s i) 1 0 + e i
put_count false c n m k l e s = omega arith

pub definitions_occur : (n : List ℕ) (ms : List Marking) → definitions n ms ≡ occurs n (labels_of ms)
definitions_occur n [] = refl
definitions_occur n (m ∷ ms) = put_count (is_label m.mark) _ n m.name _ _ (definitions_occur n ms) refl

-- among some names is standing there at least once
more : (b : Bool) {r : Bool} {k : ℕ} → (r ≡ true → 1 ≤ k) → (b || r) ≡ true → 1 ≤ cond b 1 0 + k
more true f h = omega arith
more false f h = omega (arith, f h)

pub occurs_some : (n : List ℕ) (l : List (List ℕ)) → among n l ≡ true → 1 ≤ occurs n l
occurs_some n [] h = absurd (cc)
occurs_some n (m ∷ ms) h = more (bytes_eq m n) (λ e. occurs_some n ms e) h

none_more : (b r : Bool) (k : ℕ) → (r ≡ false → k ≡ 0) → (b || r) ≡ false → cond b 1 0 + k ≡ 0
none_more true r k f h = cc
none_more false r k f h = omega (arith, f h)

pub occurs_none : (n : List ℕ) (l : List (List ℕ)) → among n l ≡ false → occurs n l ≡ 0
occurs_none n [] h = refl
occurs_none n (m ∷ ms) h = none_more (bytes_eq m n) (among n ms) (occurs n ms) (λ e. occurs_none n ms e) h

pub occurs_push : (n : List ℕ) (l : List (List ℕ)) (m : List ℕ) → occurs n (l ++ m ∷ []) ≡ occurs n l + cond (bytes_eq m n) 1 0
occurs_push n [] m = omega arith
occurs_push n (x ∷ xs) m = omega (arith, occurs_push n xs m)

-- a name that is not among others may join them
pub once_push : (l : List (List ℕ)) (m : List ℕ) → among m l ≡ false → Once l → Once (l ++ m ∷ [])
once_push l m new once n =
    ⊎_elim
    (λ e.
    let same : m ≡ n = (bytes_eq-Decides m n).0 e in
    let zero : occurs n l ≡ 0 = subst (λ x. occurs x l ≡ 0) same (occurs_none m l new) in
    let one : ◌≡◌ {A = ℕ} (cond (bytes_eq m n) 1 0) 1 = cond-true (bytes_eq m n) 1 0 e in
    omega (arith, occurs_push n l m))
    (λ e. let none : ◌≡◌ {A = ℕ} (cond (bytes_eq m n) 1 0) 0 = cond-false (bytes_eq m n) 1 0 e in omega (arith, occurs_push n l m, once n))
    (cases_Bool (bytes_eq m n))

-- what one step of the scan adds to the labels, and that they stay apart
pub record Adds (s : Seen) (ms : List Marking) (s' : Seen) : Type 0 where
  pub grown : s'.labels ≡ s.labels ++ labels_of ms
  pub apart : Once s.labels → Once s'.labels

pub adds_none : (s s' : Seen) → s'.labels ≡ s.labels → Adds s [] s'
adds_none s s' e = record { grown = e ∙ sym (append-nil s.labels); apart = λ o. subst Once (sym e) o }

adds_both : {s s' s'' : Seen} {xs ys : List Marking} → Adds s xs s' → Adds s' ys s'' → Adds s (xs ++ ys) s''
adds_both {s} {s'} {s''} {xs} {ys} a b =
    record {
      grown = b.grown ∙ ap (λ l. l ++ labels_of ys) a.grown ∙ append_assoc s.labels (labels_of xs) (labels_of ys) ∙ ap (λ l. s.labels ++ l) (sym (labels_append xs ys));
      apart = λ o. b.apart (a.apart o);
    }

pub then_ok : {X Y E : Type 0} (r : Result X E) (f : X → Result Y E) (y : Y) → then r f ≡ Ok y → (x : X) × (r ≡ Ok x) × (f x ≡ Ok y)
then_ok (Ok x) f y h = (x, refl, h)
then_ok (Err e) f y h = absurd (cc)

-- a test that let an answer through was false, or true
pub passed_by : {X E : Type 0} (b : Bool) (e : E) (r : Result X E) (x : X) → cond b (Err e) r ≡ Ok x → (b ≡ false) × (r ≡ Ok x)
passed_by true e r x h = absurd (cc)
passed_by false e r x h = (refl, h)

pub through : {X E : Type 0} (b : Bool) (e : E) (r : Result X E) (x : X) → cond b r (Err e) ≡ Ok x → (b ≡ true) × (r ≡ Ok x)
through true e r x h = (refl, h)
through false e r x h = absurd (cc)

defined_adds : (l : ℕ) (span : Span) (name : List ℕ) (s s' : Seen) → defined l span name s ≡ Ok s' → Adds s (record { mark = Label; name = name; line = l; span = span } ∷ []) s'
defined_adds l span name s s' h =
    let new = passed_by (among name s.labels) _ _ s' h in
    let room = (through (ltb (length s.labels) 128) _ _ s' new.1).1 in
    let same : s.labels ++ name ∷ [] ≡ s'.labels = cc in
    record { grown = sym same; apart = λ o. subst Once same (once_push s.labels name new.0 o) }

marked_adds : (k : Mark) (l : ℕ) (span : Span) (name : List ℕ) (s s' : Seen) → marked_by k l span name s ≡ Ok s' → Adds s (record { mark = k; name = name; line = l; span = span } ∷ []) s'
marked_adds Label l span name s s' h = defined_adds l span name s s' h
marked_adds Page l span name s s' h = let a = adds_none s s' (cc) in record { grown = a.grown; apart = a.apart }
marked_adds Number l span name s s' h = let a = adds_none s s' (cc) in record { grown = a.grown; apart = a.apart }

pub noted_adds : (l : SourceLine) (w : SourceWord) (p : Parts) (s s' : Seen) → noted l w p s ≡ Ok s' → Adds s (marking l w p) s'
noted_adds l w (Err e) s s' h = absurd (cc)
noted_adds l w (Ok None) s s' h = adds_none s s' (cc)
noted_adds l w (Ok (Some m)) s s' h = marked_adds m.mark l.number _ m.name s s' h

pub words_add : (title : Bool) (l : SourceLine) (ws : List SourceWord) (s s' : Seen) → scan_words title l ws s ≡ Ok s' → Adds s (word_marks title l ws) s'
words_add title l [] s s' h = adds_none s s' (cc)
words_add title l (w ∷ ws) s s' h =
    let r = then_ok (noted l w (parts title w.bytes) s) (λ x. scan_words title l ws x) s' h in
    adds_both (noted_adds l w (parts title w.bytes) s r.0 r.1) (words_add title l ws r.0 s' r.2)

-- what a line's kind asks leaves the labels alone
abbrev pub Keeps : Seen → Result Seen Fault → Type 0
Keeps s r = IfOk r (λ x. x.labels ≡ s.labels)

keeps_either : (b : Bool) (s : Seen) (p q : Result Seen Fault) → Keeps s p → Keeps s q → Keeps s (cond b p q)
keeps_either true s p q h k = h
keeps_either false s p q h k = k

pub entered_keeps : (k : Kind) (l : SourceLine) (s : Seen) → Keeps s (entered k l s)
entered_keeps Heading l s = keeps_either (titled l.bytes) s _ _ (keeps_either (ltb s.headings 128) s _ _ refl tt) tt
entered_keeps Directive l s =
    keeps_either (bytes_eq l.bytes (codes "!contents")) s _ _ (keeps_either s.contents s _ _ tt refl)
    (keeps_either (bytes_eq l.bytes (codes "!page")) s _ _ refl tt)
entered_keeps Remark l s = refl
entered_keeps Text l s = refl

pub line_adds : (l : SourceLine) (s s' : Seen) → scan_line l s ≡ Ok s' → Adds s (line_marks l) s'
line_adds l s s' h =
    let r = then_ok (entered (kind l.bytes) l s) (λ x. scan_words (is_title l.bytes) l (line_words l.bytes) x) s' (through _ _ _ s' h).1 in
    adds_both (adds_none s r.0 (subst (Keeps s) r.1 (entered_keeps (kind l.bytes) l s))) (words_add (is_title l.bytes) l (line_words l.bytes) r.0 s' r.2)

pub lines_add : (ls : List SourceLine) (s s' : Seen) → scan_lines ls s ≡ Ok s' → Adds s (text_marks ls) s'
lines_add [] s s' h = adds_none s s' (cc)
lines_add (l ∷ ls) s s' h =
    let r = then_ok (scan_line l s) (λ x. scan_lines ls x) s' h in
    adds_both (line_adds l s r.0 r.1) (lines_add ls r.0 s' r.2)

-- a text that the check accepts: what its scan found, and no dangling reference
unless_ok : (o : Option Fault) (c : Counts) → is_ok (unless o c) ≡ true → o ≡ None
unless_ok None c h = refl
unless_ok (Some f) c h = cc

scanned : (t : List ℕ) (r : Result Seen Fault) → is_ok (then r (λ s. resolved t s)) ≡ true → (s : Seen) × (r ≡ Ok s) × (dangling s.labels (marks t) ≡ None)
scanned t (Ok s) h = (s, refl, unless_ok (dangling s.labels (marks t)) _ h)
scanned t (Err e) h = absurd (cc)

short : (b : Bool) (e : Fault) (r : Result Counts Fault) → is_ok (cond b (Err e) r) ≡ true → is_ok r ≡ true
short true e r h = cc
short false e r h = h

pub accepted : (t : List ℕ) → is_ok (checked t) ≡ true → (s : Seen) × (scan_lines (lines t) nothing ≡ Ok s) × (dangling s.labels (marks t) ≡ None)
accepted t h = scanned t (scan_lines (lines t) nothing) (short (ltb 60000 (length t)) _ _ h)

none_cond : {X : Type 0} (b : Bool) (x : X) (o : Option X) → cond b (Some x) o ≡ None → (b ≡ false) × (o ≡ None)
none_cond true x o h = absurd (cc)
none_cond false x o h = (refl, h)

label_or_met : (k : Mark) (known : Bool) → unmet_by k known ≡ false → (is_label k ≡ true) ⊎ (known ≡ true)
label_or_met Label known h = inl refl
label_or_met Page known h = inr (not-false known h)
label_or_met Number known h = inr (not-false known h)

occurs_itself : (n : List ℕ) (l : List (List ℕ)) → 1 ≤ occurs n (n ∷ l)
occurs_itself n l = let one : ◌≡◌ {A = ℕ} (cond (bytes_eq n n) 1 0) 1 = cond-true (bytes_eq n n) 1 0 ((bytes_eq-Decides n n).1 refl) in omega arith

occurs_put : (b : Bool) (n m : List ℕ) (l : List (List ℕ)) → occurs n l ≤ occurs n (cond b (m ∷ l) l)
occurs_put true n m l = omega arith
occurs_put false n m l = omega arith

-- a mark is a label among the marks, or its name is known
standing : (names : List (List ℕ)) (ms : List Marking) (k : ℕ) → k < length ms → dangling names ms ≡ None → (1 ≤ occurs (named k ms) (labels_of ms)) ⊎ (among (named k ms) names ≡ true)
standing names [] k l h = absurd (omega arith)
standing names (m ∷ ms) zero l h =
    ⊎_elim
    (λ e. inl (subst (λ x. 1 ≤ occurs m.name x) (sym (cond-true (is_label m.mark) _ _ e)) (occurs_itself m.name (labels_of ms))))
    (λ e. inr e)
    (label_or_met m.mark (among m.name names) (none_cond (unmet names m) _ (dangling names ms) h).0)
standing names (m ∷ ms) (suc k) l h =
    ⊎_elim
    (λ e. inl (omega (arith, e, occurs_put (is_label m.mark) (named k ms) m.name (labels_of ms))))
    (λ e. inr e)
    (standing names ms k (omega arith) (none_cond (unmet names m) _ (dangling names ms) h).1)

pub labelled : (t : List ℕ) → is_ok (checked t) ≡ true → Labelled t
labelled t h k l =
    let a = accepted t h in
    let adds = lines_add (lines t) nothing a.0 a.1 in
    let n = named k (marks t) in
    let same : definitions n (marks t) ≡ occurs n a.0.labels = definitions_occur n (marks t) ∙ ap (occurs n) (sym adds.grown) in
    let most : occurs n a.0.labels ≤ 1 = adds.apart (λ x. omega arith) n in
    let least : 1 ≤ occurs n a.0.labels =
    ⊎_elim
    (λ e. subst (λ x. 1 ≤ occurs n x) (sym adds.grown) e)
    (λ e. occurs_some n a.0.labels e)
    (standing a.0.labels (marks t) k l a.2) in
    omega arith
