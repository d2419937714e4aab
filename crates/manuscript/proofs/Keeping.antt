-- What the check accepts keeps the rules.
use Rattle.std.proofs.Common.{◌≡◌, ℕ, ◌+◌, ◌≤◌, Bool, true, false, cond, ltb, List, [], ◌∷◌, ◌++◌, length, is_ok, Some, None, Ok, Err, codes, sym, refl, ap, ◌∙◌, subst, arith, length-append}
use Rattle.std.specs.Str.{bytes_eq}
use Rattle.std.proofs.lemmas.Bool.{cond-true, cond-false, and_from, or_left, or_right, ltb-true}
use Rattle.faults.specs.Faults.{about_name_lem}
use Rattle.faults.specs.declared.cause.Cause.TheVariants.{LabelRepeated, TooManyLabels}
use Rattle.faults.specs.declared.fault.Span.{Span}
use Rattle.marks.specs.Parts.{Parts, parts}
use Rattle.marks.specs.declared.mark.Mark.{Mark}
use Rattle.marks.specs.declared.mark.Mark.TheVariants.{Label, Page, Number}
use Rattle.reader.specs.Kinds.{kind, line_words}
use Rattle.reader.specs.Lines.{SourceLine}
use Rattle.reader.specs.Words.{SourceWord}
use Rattle.reader.specs.declared.kinds.Kind.{Kind}
use Rattle.reader.specs.declared.kinds.Kind.TheVariants.{Heading, Directive, Remark, Text}
use Rattle.runs.specs.Run.{all}
use Rattle.manuscript.specs.Standing.{among, heading, is_title}
use Rattle.manuscript.specs.Scanning.{Seen, allowed, titled, defined, marked_by, noted, entered, scan_words, scan_line, scan_lines}
use Rattle.manuscript.specs.Rules.{asked, words_kept, line_kept, lines_kept, headings, wants, wanted}
use Rattle.manuscript.proofs.Labelling.{then_ok, passed_by, through}

-- what a step keeps of the headings, of the contents and of the room for labels
pub record Holds (s : Seen) (h c : ℕ) (s' : Seen) : Type 0 where
  pub more : s'.headings ≡ s.headings + h
  pub fits : s.headings ≤ 128 → s'.headings ≤ 128
  pub contents : cond s'.contents 1 0 ≡ cond s.contents 1 0 + c
  pub room : length s.labels ≤ 128 → length s'.labels ≤ 128

pub holds_same : (s s' : Seen) → s ≡ s' → Holds s 0 0 s'
holds_same s s' e = subst (Holds s 0 0) e (record { more = omega arith; fits = λ h. h; contents = omega arith; room = λ h. h })

pub holds_both : (s s' s'' : Seen) (h c k d m n : ℕ) → h + k ≡ m → c + d ≡ n → Holds s h c s' → Holds s' k d s'' → Holds s m n s''
holds_both s s' s'' h c k d m n e f a b =
    record {
      more = omega (arith, a.more, b.more);
      fits = λ x. b.fits (a.fits x);
      contents = omega (arith, a.contents, b.contents);
      room = λ x. b.room (a.room x);
    }

defined_holds : (l : ℕ) (span : Span) (name : List ℕ) (s s' : Seen) → defined l span name s ≡ Ok s' → Holds s 0 0 s'
defined_holds l span name s s' h =
    let t : Seen = record { headings = s.headings; contents = s.contents; labels = s.labels ++ name ∷ [] } in
    let room = through (ltb (length s.labels) 128) (about_name_lem TooManyLabels l span) (Ok t) s' (passed_by (among name s.labels) (about_name_lem LabelRepeated l span) _ s' h).1 in
    let same : t ≡ s' = cc in
    let kept : ◌≡◌ {A = ℕ} (cond s'.contents 1 0) (cond s.contents 1 0) = ap (λ (x : Seen). cond x.contents 1 0) (sym same) in
    let long : length s'.labels ≡ length s.labels + 1 = ap (λ (x : Seen). length x.labels) (sym same) ∙ length-append s.labels (name ∷ []) in
    record {
      more = ap (λ (x : Seen). x.headings) (sym same) ∙ omega arith;
      fits = λ x. subst (λ (y : Seen). y.headings ≤ 128) same x;
      contents = omega (arith, kept);
      room = λ _. omega (arith, ltb-true (length s.labels) 128 room.0);
    }

marked_holds : (k : Mark) (l : ℕ) (span : Span) (name : List ℕ) (s s' : Seen) → marked_by k l span name s ≡ Ok s' → Holds s 0 0 s'
marked_holds Label l span name s s' h = defined_holds l span name s s' h
marked_holds Page l span name s s' h = holds_same s s' (cc)
marked_holds Number l span name s s' h = holds_same s s' (cc)

noted_holds : (l : SourceLine) (w : SourceWord) (p : Parts) (s s' : Seen) → noted l w p s ≡ Ok s' → (is_ok p ≡ true) × Holds s 0 0 s'
noted_holds l w (Err e) s s' h = absurd (cc)
noted_holds l w (Ok None) s s' h = (refl, holds_same s s' (cc))
noted_holds l w (Ok (Some m)) s s' h = (refl, marked_holds m.mark l.number _ m.name s s' h)

words_hold : (title : Bool) (l : SourceLine) (ws : List SourceWord) (s s' : Seen) → scan_words title l ws s ≡ Ok s' → (words_kept title ws ≡ true) × Holds s 0 0 s'
words_hold title l [] s s' h = (refl, holds_same s s' (cc))
words_hold title l (w ∷ ws) s s' h =
    let r = then_ok (noted l w (parts title w.bytes) s) (λ x. scan_words title l ws x) s' h in
    let a = noted_holds l w (parts title w.bytes) s r.0 r.1 in
    let b = words_hold title l ws r.0 s' r.2 in
    (and_from _ _ a.0 b.0, holds_both s r.0 s' 0 0 0 0 0 0 refl refl a.1 b.1)

-- what the kind of a line asks, where it is accepted
directive_holds : (l : SourceLine) (s s' : Seen) (c : Bool) → bytes_eq l.bytes (codes "!contents") ≡ c → entered Directive l s ≡ Ok s' → (asked Directive l.bytes ≡ true) × Holds s 0 (cond (wants Directive l.bytes) 1 0) s'
directive_holds l s s' true e h =
    let t : Seen = record { headings = s.headings; contents = true; labels = s.labels } in
    let r = passed_by s.contents _ (Ok t) s' (sym (cond-true _ _ _ e) ∙ h) in
    let same : t ≡ s' = cc in
    let none : ◌≡◌ {A = ℕ} (cond s.contents 1 0) 0 = cond-false s.contents 1 0 r.0 in
    let one : ◌≡◌ {A = ℕ} (cond (wants Directive l.bytes) 1 0) 1 = cond-true (wants Directive l.bytes) 1 0 e in (
      or_left _ _ e,
      subst (Holds s 0 (cond (wants Directive l.bytes) 1 0)) same
          (record { more = omega arith; fits = λ x. x; contents = omega arith; room = λ x. x }),
    )
directive_holds l s s' false e h =
    let r = through (bytes_eq l.bytes (codes "!page")) _ (Ok s) s' (sym (cond-false _ _ _ e) ∙ h) in
    let none : ◌≡◌ {A = ℕ} 0 (cond (wants Directive l.bytes) 1 0) = sym (cond-false (wants Directive l.bytes) 1 0 e) in
    (or_right _ _ r.0, subst (λ n. Holds s 0 n s') none (holds_same s s' (cc)))

entered_holds : (k : Kind) (l : SourceLine) (s s' : Seen) → entered k l s ≡ Ok s' → (asked k l.bytes ≡ true) × Holds s (cond (heading k) 1 0) (cond (wants k l.bytes) 1 0) s'
entered_holds Heading l s s' h =
    let t : Seen = record { headings = s.headings + 1; contents = s.contents; labels = s.labels } in
    let r = through (titled l.bytes) _ _ s' h in
    let q = through (ltb s.headings 128) _ (Ok t) s' r.1 in
    let same : t ≡ s' = cc in
    (r.0, subst (Holds s 1 0) same (record { more = refl; fits = λ x. omega (arith, ltb-true s.headings 128 q.0); contents = omega arith; room = λ x. x }))
entered_holds Directive l s s' h = directive_holds l s s' _ refl h
entered_holds Remark l s s' h = (refl, holds_same s s' (cc))
entered_holds Text l s s' h = (refl, holds_same s s' (cc))

pub line_holds : (l : SourceLine) (s s' : Seen) → scan_line l s ≡ Ok s' → (line_kept l ≡ true) × Holds s (cond (is_title l.bytes) 1 0) (cond (wants (kind l.bytes) l.bytes) 1 0) s'
line_holds l s s' h =
    let b = through (all allowed l.bytes) _ _ s' h in
    let r = then_ok (entered (kind l.bytes) l s) (λ x. scan_words (is_title l.bytes) l (line_words l.bytes) x) s' b.1 in
    let e = entered_holds (kind l.bytes) l s r.0 r.1 in
    let w = words_hold (is_title l.bytes) l (line_words l.bytes) r.0 s' r.2 in
    (and_from _ _ b.0 (and_from _ _ e.0 w.0), holds_both s r.0 s' _ _ 0 0 _ _ (omega arith) (omega arith) e.1 w.1)

pub lines_hold : (ls : List SourceLine) (s s' : Seen) → scan_lines ls s ≡ Ok s' → (lines_kept ls ≡ true) × Holds s (headings ls) (wanted ls) s'
lines_hold [] s s' h = (refl, holds_same s s' (cc))
lines_hold (l ∷ ls) s s' h =
    let r = then_ok (scan_line l s) (λ x. scan_lines ls x) s' h in
    let a = line_holds l s r.0 r.1 in
    let b = lines_hold ls r.0 s' r.2 in
    (and_from _ _ a.0 b.0, holds_both s r.0 s' _ _ _ _ _ _ refl refl a.1 b.1)
