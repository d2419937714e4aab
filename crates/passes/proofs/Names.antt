-- The labels of a script are those of its text, in order, and no two have one name where every mark's name is defined once.
use Rattle.std.proofs.Common.{◌≡◌, ℕ, Bool, true, false, cond, not, ◌||◌, List, [], ◌∷◌, ◌++◌, length, drop, Some, None, Ok, Err, codes, sym, refl, ap, ◌∙◌, ⊎_elim, arith}
use Rattle.std.specs.Str.{bytes_eq}
use Rattle.std.proofs.lemmas.Slice.Eq.{bytes_eq-Decides}
use Rattle.std.proofs.lemmas.List.{append-nil, drop_all}
use Rattle.std.proofs.lemmas.Bool.{cases_Bool, cond-true, and_from, not_from_false}
use Rattle.compose.specs.Acts.{end_of_paragraph}
use Rattle.compose.specs.Acts as acts
use Rattle.findings.specs.Fitting.{named, label_names, among, apart}
use Rattle.manuscript.specs.Labelled.{is_label}
use Rattle.manuscript.specs.Standing.{heading, marking, word_marks, line_marks, text_marks}
use Rattle.manuscript.specs.Standing as standing
use Rattle.manuscript.proofs.Labelling.{Once, labels_of, labels_append, occurs_some}
use Rattle.marks.specs.Parts.{Parts, parts}
use Rattle.marks.specs.declared.mark.Mark.{Mark}
use Rattle.marks.specs.declared.mark.Mark.TheVariants.{Label, Page, Number}
use Rattle.reader.specs.Kinds.{kind, start_of, line_words}
use Rattle.reader.specs.Lines.{SourceLine}
use Rattle.reader.specs.Words.{SourceWord, words}
use Rattle.reader.specs.declared.kinds.Kind.{Kind}
use Rattle.reader.specs.declared.kinds.Kind.TheVariants.{Heading, Directive, Remark, Text}
use Rattle.typeset.specs.Items.{ItemWord, mark_in, item_words, title_words, contents, page_break, passed_over, item_of, line_item, items_of}
use Rattle.typeset.specs.Numbering.{number_after_lem}
use Rattle.typeset.specs.Script.{in_place, part_by, part_in, word_acts, text_acts, item_acts, told}
use Rattle.typeset.specs.Shown.{Shown}
use Rattle.passes.proofs.Parting.{label_names_append, contents_names}

-- a mark adds its name just where it is a label
named_by : (k : acts.Number) (x : Mark) (n : List ℕ) (b a : ℕ) (ns : List (List ℕ)) → named (part_by k x n b a) ns ≡ cond (is_label x) (n ∷ []) [] ++ ns
named_by k Label n b a ns = refl
named_by k Page n b a ns = refl
named_by k Number n b a ns = refl

-- a word in its place adds the names that its marking defines
named_word : (k : acts.Number) (l : SourceLine) (w : SourceWord) (p : Parts) (ns : List (List ℕ)) → named (part_in (in_place k) (mark_in p)) ns ≡ labels_of (marking l w p) ++ ns
named_word k l w (Ok None) ns = refl
named_word k l w (Ok (Some m)) ns = named_by k m.mark m.name (length m.prefix) (length m.suffix) ns
named_word k l w (Err e) ns = refl

-- a line that is passed over up to its end has no word
no_words : (x : Kind) (b : List ℕ) → kind b ≡ x → start_of x b ≡ length b → line_words b ≡ []
no_words x b e all =
    let end : start_of (kind b) b ≡ length b = ap (λ y. start_of y b) e ∙ all in
    ap (λ i. words i (drop i b)) end ∙ ap (words (length b)) (drop_all (length b) b (omega arith))

module _ (sh : Shown) (ts : List (List ItemWord)) where
  -- words in their place define what their marks do
  words_names : (k : acts.Number) (title : Bool) (l : SourceLine) (ws : List SourceWord) → label_names (word_acts sh (in_place k) (item_words title l ws)) ≡ labels_of (word_marks title l ws)
  words_names k title l [] = refl
  words_names k title l (w ∷ ws) =
      let here = marking l w (parts title w.bytes) in
      named_word k l w (parts title w.bytes) _ ∙ ap (λ ns. labels_of here ++ ns) (words_names k title l ws) ∙ sym (labels_append here (word_marks title l ws))

  -- an empty line of text defines none
  text_names : (k : acts.Number) (ws : List ItemWord) → label_names (text_acts sh k ws) ≡ label_names (word_acts sh (in_place k) ws)
  text_names k [] = refl
  text_names k (w ∷ ws) = refl

  -- nor does a directive
  directive_names : (a b : Bool) (n : ℕ) (k : acts.Number) → label_names (item_acts sh ts k (cond a (contents n) (cond b page_break passed_over))) ≡ []
  directive_names true b n k = contents_names sh n ts sh.contents
  directive_names false true n k = refl
  directive_names false false n k = refl

  -- a line that is no prose defines none, and has no mark
  pass_names : (x : Kind) (title : Bool) (l : SourceLine) → kind l.bytes ≡ x → start_of x l.bytes ≡ length l.bytes → [] ≡ labels_of (word_marks title l (line_words l.bytes))
  pass_names x title l e all = ap (λ ws. labels_of (word_marks title l ws)) (sym (no_words x l.bytes e all))

  -- a line of a kind defines what its marks do
  kind_names : (x : Kind) (l : SourceLine) (k : acts.Number) → kind l.bytes ≡ x → label_names (item_acts sh ts k (item_of x l)) ≡ labels_of (word_marks (heading x) l (line_words l.bytes))
  kind_names Heading l k e = label_names_append (word_acts sh (in_place k) (title_words l)) (end_of_paragraph ∷ []) ∙ append-nil _ ∙ words_names k true l (line_words l.bytes)
  kind_names Directive l k e = directive_names (bytes_eq l.bytes (codes "!contents")) (bytes_eq l.bytes (codes "!page")) l.number k ∙ pass_names Directive false l e refl
  kind_names Remark l k e = pass_names Remark false l e refl
  kind_names Text l k e = text_names k (item_words false l (line_words l.bytes)) ∙ words_names k false l (line_words l.bytes)

  -- and so do lines
  pub told_names : (ls : List SourceLine) (k : acts.Number) → label_names (told sh ts k (items_of ls)) ≡ labels_of (text_marks ls)
  told_names [] k = refl
  told_names (l ∷ ls) k =
      let m = number_after_lem k (line_item l) in
      label_names_append (item_acts sh ts m (line_item l)) _
      ∙ (λ i. kind_names (kind l.bytes) l m refl i ++ told_names ls m i)
      ∙ sym (labels_append (line_marks l) (text_marks ls))

-- the findings and the check ask alike whether a name is one of some
among_same : (n : List ℕ) (ns : List (List ℕ)) → among n ns ≡ standing.among n ns
among_same n [] = refl
among_same n (m ∷ ms) = ap (λ b. bytes_eq m n || b) (among_same n ms)

-- names that occur at most once each stand apart
pub once_apart : (ns : List (List ℕ)) → Once ns → apart ns ≡ true
once_apart [] o = refl
once_apart (n ∷ ns) o =
    let one : ◌≡◌ {A = ℕ} (cond (bytes_eq n n) 1 0) 1 = cond-true (bytes_eq n n) 1 0 ((bytes_eq-Decides n n).1 refl) in
    let new : among n ns ≡ false = ⊎_elim (λ e. absurd (omega (arith, occurs_some n ns (sym (among_same n ns) ∙ e), o n))) (λ e. e) (cases_Bool (among n ns)) in
    and_from (not (among n ns)) (apart ns) (not_from_false (among n ns) new) (once_apart ns (λ m. omega (arith, o m)))
