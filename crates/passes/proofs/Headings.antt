-- The headings of a script are those of its items, which are the lines that are headings, and none is of level 0.
use Rattle.std.proofs.Common.{◌≡◌, ℕ, ◌+◌, ◌≤◌, Bool, true, false, cond, List, [], ◌∷◌, ◌++◌, length, Some, None, codes, Option, sym, refl, ap, ◌∙◌, subst, arith}
use Rattle.std.specs.List.{AllByRecursion}
use Rattle.std.specs.Str.{bytes_eq}
use Rattle.std.proofs.ByRecursion.{All-append}
use Rattle.std.proofs.lemmas.List.{append-nil}
use Rattle.std.proofs.lemmas.Bool.{cond_both}
use Rattle.compose.specs.Acts.{end_of_paragraph}
use Rattle.compose.specs.Acts as acts
use Rattle.findings.specs.Fitting.{titled, titles}
use Rattle.manuscript.specs.Rules.{headings}
use Rattle.manuscript.specs.Standing.{heading, is_title}
use Rattle.marks.specs.Parts.{MarkedWord}
use Rattle.marks.specs.declared.mark.Mark.{Mark}
use Rattle.marks.specs.declared.mark.Mark.TheVariants.{Label, Page, Number}
use Rattle.reader.specs.Kinds.{kind}
use Rattle.reader.specs.Lines.{SourceLine}
use Rattle.reader.specs.declared.kinds.Kind.{Kind}
use Rattle.reader.specs.declared.kinds.Kind.TheVariants.{Heading, Directive, Remark, Text}
use Rattle.typeset.specs.Items.{ItemWord, Item, text, contents, page_break, passed_over, item_of, line_item, items_of}
use Rattle.typeset.specs.Items as item
use Rattle.typeset.specs.Numbering.{number_after_lem}
use Rattle.typeset.specs.Script.{in_place, part_by, part_in, word_acts, item_acts, told}
use Rattle.typeset.specs.Shown.{Shown}
use Rattle.typeset.proofs.Numbers.{level_one, number_risen}
use Rattle.passes.specs.Entries.{item_numbers, numbers_told}
use Rattle.passes.proofs.Parting.{titles_parted, contents_titles}

-- no mark makes a heading
titled_by : (k : acts.Number) (x : Mark) (n : List ℕ) (b a : ℕ) (ks : List acts.Number) → titled (part_by k x n b a) ks ≡ ks
titled_by k Label n b a ks = refl
titled_by k Page n b a ks = refl
titled_by k Number n b a ks = refl

-- a word in its place is no heading
titled_word : (k : acts.Number) (o : Option MarkedWord) (ks : List acts.Number) → titled (part_in (in_place k) o) ks ≡ ks
titled_word k None ks = refl
titled_word k (Some m) ks = titled_by k m.mark m.name (length m.prefix) (length m.suffix) ks

-- no number is of level 0
abbrev Levels : List acts.Number → Type 0
Levels ks = AllByRecursion (λ (k : acts.Number). 1 ≤ k.level) ks

-- one number more where a line is a heading
one_more : (b : Bool) (k : acts.Number) (ks : List acts.Number) → length (cond b (k ∷ []) [] ++ ks) ≡ cond b 1 0 + length ks
one_more true k ks = omega arith
one_more false k ks = omega arith

module _ (sh : Shown) (ts : List (List ItemWord)) where
  -- words in their place have no heading among them
  words_titles : (k : acts.Number) (ws : List ItemWord) → titles (word_acts sh (in_place k) ws) ≡ []
  words_titles k [] = refl
  words_titles k (w ∷ ws) = titled_word k w.mark (titles (word_acts sh (in_place k) ws)) ∙ words_titles k ws

  -- an item has one, under its own number, where it is one
  item_titles : (k : acts.Number) (i : Item) → titles (item_acts sh ts k i) ≡ item_numbers k i
  item_titles k (text []) = refl
  item_titles k (text (w ∷ ws)) = words_titles k (w ∷ ws)
  item_titles k (item.heading n d ws) = ap (λ ks. k ∷ ks) (titles_parted (word_acts sh (in_place k) ws) (end_of_paragraph ∷ []) ∙ append-nil _ ∙ words_titles k ws)
  item_titles k (contents n) = contents_titles sh n ts sh.contents
  item_titles k page_break = refl
  item_titles k passed_over = refl

  -- the headings of a script are those of its items
  pub told_titles : (is : List Item) (k : acts.Number) → titles (told sh ts k is) ≡ numbers_told k is
  told_titles [] k = refl
  told_titles (i ∷ is) k =
      let m = number_after_lem k i in
      titles_parted (item_acts sh ts m i) (told sh ts m is) ∙ (λ j. item_titles m i j ++ told_titles is m j)

-- a directive is no heading
directive_numbers : (a b : Bool) (n : ℕ) (k : acts.Number) → item_numbers k (cond a (contents n) (cond b page_break passed_over)) ≡ []
directive_numbers true b n k = refl
directive_numbers false true n k = refl
directive_numbers false false n k = refl

-- a line is one where its kind is
kind_numbers : (x : Kind) (l : SourceLine) (k : acts.Number) → item_numbers k (item_of x l) ≡ cond (heading x) (k ∷ []) []
kind_numbers Heading l k = refl
kind_numbers Directive l k = directive_numbers (bytes_eq l.bytes (codes "!contents")) (bytes_eq l.bytes (codes "!page")) l.number k
kind_numbers Remark l k = refl
kind_numbers Text l k = refl

-- there are as many as heading lines
pub told_titling : (ls : List SourceLine) (k : acts.Number) → length (numbers_told k (items_of ls)) ≡ headings ls
told_titling [] k = refl
told_titling (l ∷ ls) k =
    let m = number_after_lem k (line_item l) in
    let rest = numbers_told m (items_of ls) in
    ap (λ ks. length (ks ++ rest)) (kind_numbers (kind l.bytes) l m) ∙ one_more (is_title l.bytes) m rest ∙ ap (λ n. cond (is_title l.bytes) 1 0 + n) (told_titling ls m)

-- and each is of the level of its line
pub told_levels : (ls : List SourceLine) (k : acts.Number) → Levels (numbers_told k (items_of ls))
told_levels [] k = tt
told_levels (l ∷ ls) k =
    let m = number_after_lem k (line_item l) in
    let here : Levels (cond (is_title l.bytes) (m ∷ []) []) =
    cond_both (is_title l.bytes) (m ∷ []) [] Levels
    (λ e. (subst (λ (x : acts.Number). 1 ≤ x.level) (sym (number_risen (kind l.bytes) l k e)) (level_one l.bytes e), tt))
    (λ e. tt) in
    All-append _ (item_numbers m (line_item l)) _ (subst Levels (sym (kind_numbers (kind l.bytes) l m)) here) (told_levels ls m)
