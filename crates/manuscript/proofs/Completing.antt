-- What keeps the rules the check accepts, and so it accepts just that.
use Rattle.std.proofs.Common.{◌≡◌, ℕ, suc, ◌+◌, ◌<◌, ◌≤◌, Bool, true, false, cond, not, ltb, ◌⊎◌, List, [], ◌∷◌, ◌++◌, length, is_ok, Some, None, Ok, Err, codes, Result, sym, refl, ap, ◌∙◌, subst, inl, inr, ⊎_elim, append_assoc, arith, length-append}
use Rattle.std.specs.Str.{bytes_eq}
use Rattle.std.proofs.lemmas.Slice.Eq.{bytes_eq-Decides}
use Rattle.std.proofs.lemmas.Bool.{cond-true, cond-false, cases_Bool, and_parts, or_cases, lt-ltb, le-ltb, ltb-false, true≢false, cases_lt}
use Rattle.faults.specs.declared.fault.Fault.{Fault}
use Rattle.faults.specs.declared.fault.Span.{Span}
use Rattle.marks.specs.Parts.{Parts, parts}
use Rattle.marks.specs.declared.mark.Mark.{Mark}
use Rattle.marks.specs.declared.mark.Mark.TheVariants.{Label, Page, Number}
use Rattle.reader.specs.Kinds.{kind, line_words}
use Rattle.reader.specs.Lines.{SourceLine, lines}
use Rattle.reader.specs.Words.{SourceWord}
use Rattle.reader.specs.declared.kinds.Kind.{Kind}
use Rattle.reader.specs.declared.kinds.Kind.TheVariants.{Heading, Directive, Remark, Text}
use Rattle.runs.specs.Run.{all}
use Rattle.manuscript.specs.Standing.{Marking, heading, is_title, marking, word_marks, line_marks, text_marks, marks, among, unmet_by, unmet, dangling}
use Rattle.manuscript.specs.Scanning.{Seen, nothing, then, allowed, titled, marked_by, noted, entered, scan_words, scan_line, scan_lines}
use Rattle.manuscript.specs.Checking.{unless, resolved, checked}
use Rattle.manuscript.specs.Labelled.{is_label, definitions, named, Labelled}
use Rattle.manuscript.specs.Rules.{asked, words_kept, line_kept, lines_kept, headings, wants, wanted, labels, Kept, Accepts}
use Rattle.manuscript.specs.declared.counts.Counts.{Counts}
use Rattle.manuscript.proofs.Labelling.{occurs, Once, labels_of, labels_append, definitions_occur, occurs_some, occurs_none, occurs_push, adds_none, entered_keeps, Keeps, passed_by, Adds, noted_adds, line_adds, lines_add, accepted, labelled}
use Rattle.manuscript.proofs.Keeping.{line_holds, lines_hold}

occurs_append : (n : List ℕ) (xs ys : List (List ℕ)) → occurs n (xs ++ ys) ≡ occurs n xs + occurs n ys
occurs_append n [] ys = omega arith
occurs_append n (x ∷ xs) ys = omega (arith, occurs_append n xs ys)

-- names that stand apart, and the front of them
once_front : (xs ys : List (List ℕ)) → Once (xs ++ ys) → Once xs
once_front xs ys o n = omega (arith, occurs_append n xs ys, o n)

-- a name that may join others apart is none of them
new_name : (xs : List (List ℕ)) (name : List ℕ) → Once (xs ++ name ∷ []) → among name xs ≡ false
new_name xs name o =
    ⊎_elim
    (λ e.
    let one : ◌≡◌ {A = ℕ} (cond (bytes_eq name name) 1 0) 1 = cond-true (bytes_eq name name) 1 0 ((bytes_eq-Decides name name).1 refl) in
    absurd (omega (arith, occurs_some name xs e, occurs_push name xs name, o name)))
    (λ e. e)
    (cases_Bool (among name xs))

-- the labels that are still to come have room and stand apart from those so far
pub record Room (s : Seen) (ms : List Marking) : Type 0 where
  pub short : length s.labels + length (labels_of ms) ≤ 128
  pub once : Once (s.labels ++ labels_of ms)

-- room for marks is room for the first of them, and then for the others
room_first : (s : Seen) (xs ys : List Marking) → Room s (xs ++ ys) → Room s xs
room_first s xs ys r =
    let e = labels_append xs ys in
    record {
      short = omega (arith, r.short, ap length e, length-append (labels_of xs) (labels_of ys));
      once = once_front (s.labels ++ labels_of xs) (labels_of ys) (subst Once (ap (λ l. s.labels ++ l) e ∙ sym (append_assoc s.labels (labels_of xs) (labels_of ys))) r.once);
    }

room_rest : (s s' : Seen) (xs ys : List Marking) → Adds s xs s' → Room s (xs ++ ys) → Room s' ys
room_rest s s' xs ys a r =
    let e = labels_append xs ys in
    record {
      short = omega (arith, r.short, ap length e, length-append (labels_of xs) (labels_of ys), ap length a.grown, length-append s.labels (labels_of xs));
      once = subst Once (ap (λ l. s.labels ++ l) e ∙ sym (append_assoc s.labels (labels_of xs) (labels_of ys)) ∙ ap (λ l. l ++ labels_of ys) (sym a.grown)) r.once;
    }

-- a step is accepted
abbrev Done : Result Seen Fault → Type 0
Done r = (s : Seen) × (r ≡ Ok s)

marked_done : (k : Mark) (l : ℕ) (span : Span) (name : List ℕ) (s : Seen) → Room s (record { mark = k; name = name; line = l; span = span } ∷ []) → Done (marked_by k l span name s)
marked_done Label l span name s r = (_, cond-false (among name s.labels) _ _ (new_name s.labels name r.once) ∙ cond-true (ltb (length s.labels) 128) _ _ (lt-ltb _ _ (omega (arith, r.short))))
marked_done Page l span name s r = (s, refl)
marked_done Number l span name s r = (s, refl)

noted_done : (l : SourceLine) (w : SourceWord) (p : Parts) (s : Seen) → is_ok p ≡ true → Room s (marking l w p) → Done (noted l w p s)
noted_done l w (Err e) s ok r = absurd (cc)
noted_done l w (Ok None) s ok r = (s, refl)
noted_done l w (Ok (Some m)) s ok r = marked_done m.mark l.number _ m.name s r

-- one accepted step after another
done_then : (r : Result Seen Fault) (f : Seen → Result Seen Fault) (s s' : Seen) → r ≡ Ok s → f s ≡ Ok s' → then r f ≡ Ok s'
done_then r f s s' e h = ap (λ x. then x f) e ∙ h

words_done : (title : Bool) (l : SourceLine) (ws : List SourceWord) (s : Seen) → words_kept title ws ≡ true → Room s (word_marks title l ws) → Done (scan_words title l ws s)
words_done title l [] s k r = (s, refl)
words_done title l (w ∷ ws) s k r =
    let p = parts title w.bytes in
    let both = and_parts (is_ok p) (words_kept title ws) k in
    let a = noted_done l w p s both.0 (room_first s (marking l w p) (word_marks title l ws) r) in
    let b = words_done title l ws a.0 both.1 (room_rest s a.0 (marking l w p) (word_marks title l ws) (noted_adds l w p s a.0 a.1) r) in
    (b.0, done_then (noted l w p s) (λ x. scan_words title l ws x) a.0 b.0 a.1 b.1)

directive_done : (l : SourceLine) (s : Seen) (c : Bool) → bytes_eq l.bytes (codes "!contents") ≡ c → asked Directive l.bytes ≡ true → cond s.contents 1 0 + cond (wants Directive l.bytes) 1 0 ≤ 1 → Done (entered Directive l s)
directive_done l s true e a w =
    let one : ◌≡◌ {A = ℕ} (cond (wants Directive l.bytes) 1 0) 1 = cond-true (wants Directive l.bytes) 1 0 e in
    let first : s.contents ≡ false = ⊎_elim (λ t. let two : ◌≡◌ {A = ℕ} (cond s.contents 1 0) 1 = cond-true s.contents 1 0 t in absurd (omega arith)) (λ f. f) (cases_Bool s.contents) in
    (_, cond-true (bytes_eq l.bytes (codes "!contents")) _ _ e ∙ cond-false s.contents _ _ first)
directive_done l s false e a w =
    let page : bytes_eq l.bytes (codes "!page") ≡ true = ⊎_elim (λ t. absurd (true≢false (sym t ∙ e))) (λ t. t) (or_cases (bytes_eq l.bytes (codes "!contents")) _ a) in
    (s, cond-false (bytes_eq l.bytes (codes "!contents")) _ _ e ∙ cond-true (bytes_eq l.bytes (codes "!page")) _ _ page)

entered_done : (k : Kind) (l : SourceLine) (s : Seen) → asked k l.bytes ≡ true → s.headings + cond (heading k) 1 0 ≤ 128 → cond s.contents 1 0 + cond (wants k l.bytes) 1 0 ≤ 1 → Done (entered k l s)
entered_done Heading l s a h w = (_, cond-true (titled l.bytes) _ _ a ∙ cond-true (ltb s.headings 128) _ _ (lt-ltb _ _ (omega arith)))
entered_done Directive l s a h w = directive_done l s _ refl a w
entered_done Remark l s a h w = (s, refl)
entered_done Text l s a h w = (s, refl)

-- what is left of the lines has room in every way
pub record Fits (s : Seen) (h c : ℕ) (ms : List Marking) : Type 0 where
  pub few : s.headings + h ≤ 128
  pub wants_few : cond s.contents 1 0 + c ≤ 1
  pub room : Room s ms

line_done : (l : SourceLine) (s : Seen) → line_kept l ≡ true → Fits s (cond (is_title l.bytes) 1 0) (cond (wants (kind l.bytes) l.bytes) 1 0) (line_marks l) → Done (scan_line l s)
line_done l s k f =
    let bytes = and_parts (all allowed l.bytes) _ k in
    let rest = and_parts (asked (kind l.bytes) l.bytes) _ bytes.1 in
    let a = entered_done (kind l.bytes) l s rest.0 f.few f.wants_few in
    let same = adds_none s a.0 (subst (Keeps s) a.1 (entered_keeps (kind l.bytes) l s)) in
    let b = words_done (is_title l.bytes) l (line_words l.bytes) a.0 rest.1 (room_rest s a.0 [] (line_marks l) same f.room) in
    (b.0, cond-true (all allowed l.bytes) _ _ bytes.0 ∙ done_then (entered (kind l.bytes) l s) (λ x. scan_words (is_title l.bytes) l (line_words l.bytes) x) a.0 b.0 a.1 b.1)

lines_done : (ls : List SourceLine) (s : Seen) → lines_kept ls ≡ true → Fits s (headings ls) (wanted ls) (text_marks ls) → Done (scan_lines ls s)
lines_done [] s k f = (s, refl)
lines_done (l ∷ ls) s k f =
    let both = and_parts (line_kept l) (lines_kept ls) k in
    let now = line_done l s both.0 (record { few = omega (arith, f.few); wants_few = omega (arith, f.wants_few); room = room_first s (line_marks l) (text_marks ls) f.room }) in
    let held = (line_holds l s now.0 now.1).1 in
    let later =
    lines_done ls now.0 both.1
    (record {
      few = omega (arith, f.few, held.more);
      wants_few = omega (arith, f.wants_few, held.contents);
      room = room_rest s now.0 (line_marks l) (text_marks ls) (line_adds l s now.0 now.1) f.room;
    }) in
    (later.0, done_then (scan_line l s) (λ x. scan_lines ls x) now.0 later.0 now.1 later.1)

-- no reference dangles where every mark's name is known
met_by : (k : Mark) (known : Bool) → known ≡ true → unmet_by k known ≡ false
met_by Label known e = refl
met_by Page known e = ap not e
met_by Number known e = ap not e

none_dangles : (names : List (List ℕ)) (ms : List Marking) → ((k : ℕ) → k < length ms → among (named k ms) names ≡ true) → dangling names ms ≡ None
none_dangles names [] f = refl
none_dangles names (m ∷ ms) f =
    cond-false (unmet names m) _ _ (met_by m.mark _ (f 0 (omega arith))) ∙ none_dangles names ms (λ k l. f (suc k) (omega arith))

-- a name that labels define is the name of a mark
put_found : (b : Bool) (m n : List ℕ) (l : List (List ℕ)) → 1 ≤ occurs n (cond b (m ∷ l) l) → (m ≡ n) ⊎ (1 ≤ occurs n l)
put_found true m n l h = ⊎_elim (λ e. inl ((bytes_eq-Decides m n).0 e)) (λ e. let none : ◌≡◌ {A = ℕ} (cond (bytes_eq m n) 1 0) 0 = cond-false (bytes_eq m n) 1 0 e in inr (omega arith)) (cases_Bool (bytes_eq m n))
put_found false m n l h = inr h

found : (n : List ℕ) (ms : List Marking) → 1 ≤ occurs n (labels_of ms) → (k : ℕ) × (k < length ms) × (named k ms ≡ n)
found n [] h = absurd (omega arith)
found n (m ∷ ms) h =
    ⊎_elim
    (λ e. (0, omega arith, e))
    (λ e. let r = found n ms e in (suc r.0, omega (arith, r.1), r.2))
    (put_found (is_label m.mark) m.name n (labels_of ms) h)

pub labelled_once : (t : List ℕ) → Labelled t → Once (labels_of (marks t))
labelled_once t l n =
    ⊎_elim
    (λ h. omega arith)
    (λ h.
    let r = found n (marks t) h in
    let one : definitions n (marks t) ≡ 1 = ap (λ x. definitions x (marks t)) (sym r.2) ∙ l r.0 r.1 in
    omega (arith, definitions_occur n (marks t)))
    (cases_lt (occurs n (labels_of (marks t))) 1)

count_put : (b : Bool) (m : List ℕ) (l : List (List ℕ)) → length (cond b (m ∷ l) l) ≡ cond b 1 0 + length l
count_put true m l = omega arith
count_put false m l = omega arith

pub labels_count : (ms : List Marking) → length (labels_of ms) ≡ labels ms
labels_count [] = refl
labels_count (m ∷ ms) = count_put (is_label m.mark) m.name (labels_of ms) ∙ ap (λ k. cond (is_label m.mark) 1 0 + k) (labels_count ms)

kept_accepted : (t : List ℕ) → Kept t → is_ok (checked t) ≡ true
kept_accepted t k =
    let few : length (labels_of (marks t)) ≤ 128 = omega (arith, k.few_labels, labels_count (marks t)) in
    let d = lines_done (lines t) nothing k.formed (record { few = omega (arith, k.few_headings); wants_few = omega (arith, k.few_contents); room = record { short = omega arith; once = labelled_once t k.labelled } }) in
    let names : d.0.labels ≡ labels_of (marks t) = (lines_add (lines t) nothing d.0 d.1).grown in
    let met : dangling d.0.labels (marks t) ≡ None =
    none_dangles d.0.labels (marks t)
    (λ i l.
    let n = named i (marks t) in
    let one : 1 ≤ occurs n d.0.labels = omega (arith, k.labelled i l, definitions_occur n (marks t), ap (occurs n) names) in
    ⊎_elim (λ e. e) (λ e. absurd (omega (arith, occurs_none n d.0.labels e))) (cases_Bool (among n d.0.labels))) in
    ap is_ok
    (cond-false (ltb 60000 (length t)) _ _ (le-ltb 60000 (length t) k.short)
    ∙ ap (λ r. then r (λ s. resolved t s)) d.1
    ∙ ap (λ o. unless o (record { lines = length (lines t); labels = length d.0.labels; headings = d.0.headings })) met)

-- a number of at most one
at_most : (b : Bool) (n : ℕ) → cond b 1 0 ≡ 0 + n → n ≤ 1
at_most true n e = omega arith
at_most false n e = omega arith

-- what an accepted check counts
pub accepts : (t : List ℕ) (r : Result Counts Fault) → r ≡ checked t → Accepts t r
accepts t (Ok c) e =
    let ok : is_ok (checked t) ≡ true = ap is_ok (sym e) in
    let a = accepted t ok in
    let held = lines_hold (lines t) nothing a.0 a.1 in
    let names : a.0.labels ≡ labels_of (marks t) = (lines_add (lines t) nothing a.0 a.1).grown in
    let many : length a.0.labels ≡ labels (marks t) = ap length names ∙ labels_count (marks t) in
    let room : length a.0.labels ≤ 128 = held.1.room (omega arith) in
    let short = passed_by (ltb 60000 (length t)) _ _ c (sym e) in
    let all-counts : Counts = record { lines = length (lines t); labels = length a.0.labels; headings = a.0.headings } in
    let counts : c ≡ all-counts = let same = sym short.1 ∙ ap (λ r. then r (λ s. resolved t s)) a.1 ∙ ap (λ o. unless o all-counts) a.2 in cc in (
      record {
        short = ltb-false 60000 (length t) short.0;
        formed = held.0;
        few_headings = omega (arith, held.1.more, held.1.fits (omega arith));
        few_contents = at_most a.0.contents (wanted (lines t)) held.1.contents;
        few_labels = omega arith;
        labelled = labelled t ok;
      },
      record {
        lines_are = ap (λ (x : Counts). x.lines) counts;
        labels_are = ap (λ (x : Counts). x.labels) counts ∙ many;
        headings_are = ap (λ (x : Counts). x.headings) counts ∙ held.1.more ∙ omega arith;
      },
    )
accepts t (Err f) e = λ k. true≢false (sym (kept_accepted t k) ∙ ap is_ok (sym e))

kept_by : (t : List ℕ) (r : Result Counts Fault) → is_ok r ≡ true → Accepts t r → Kept t
kept_by t (Ok c) e a = a.0
kept_by t (Err f) e a = absurd (true≢false (sym e))

-- a bound text keeps the rules
pub accepted_kept : (t : List ℕ) → is_ok (checked t) ≡ true → Kept t
accepted_kept t e = kept_by t (checked t) e (accepts t (checked t) refl)
