-- How many words a script has: fewer than a number of 64 bits counts, by a bound for each line. A text of at most 60000 bytes
-- has at most so many lines and titles, each of at most so many words, so a line asks for fewer than 4000000000 words, even
-- where it asks for contents.
use Rattle.std.proofs.Common.{◌≡◌, ℕ, zero, suc, ◌+◌, ◌*◌, ◌≤◌, Bool, true, false, cond, List, [], ◌∷◌, length, drop, codes, sym, refl, subst, arith, length-drop}
use Rattle.std.specs.List.{prefix_len, AllByRecursion}
use Rattle.std.specs.Str.{bytes_eq}
use Rattle.std.proofs.lemmas.List.{length-take-le}
use Rattle.std.proofs.lemmas.List.Sums.{prefix_len-le-length}
use Rattle.std.proofs.lemmas.Bool.{cond_both}
use Rattle.compose.specs.Acts.{Number, end_of_paragraph, set_word}
use Rattle.compose.specs.Acts as acts
use Rattle.findings.specs.Fitting.{wording}
use Rattle.manuscript.specs.Standing.{heading}
use Rattle.reader.specs.Kinds.{kind, prose_start_lem, line_words}
use Rattle.reader.specs.Lines.{in_line, SourceLine, lines_past}
use Rattle.reader.specs.Words.{in_word, SourceWord, words_past}
use Rattle.reader.specs.declared.kinds.Kind.{Kind}
use Rattle.reader.specs.declared.kinds.Kind.TheVariants.{Heading, Directive, Remark, Text}
use Rattle.typeset.specs.Items.{ItemWord, at_line_lem, item_words, title_words, contents, page_break, passed_over, item_of, line_item, items_of, with_title, titles}
use Rattle.typeset.specs.Numbering.{number_after_lem}
use Rattle.typeset.specs.Script.{Manner, in_place, in_contents, word_acts, entry_acts, contents_acts, text_acts, item_acts, told}
use Rattle.typeset.specs.Shown.{Shown, ContentsLine}
use Rattle.passes.proofs.Parting.{wording_append}

-- bytes have at most so many words
words_few : (k i : ℕ) (bs : List ℕ) → length (words_past k i bs) ≤ length bs
words_few zero i [] = omega arith
words_few (suc k) i [] = omega arith
words_few (suc k) i (b ∷ bs) = omega (arith, words_few k (i + 1) bs)
words_few zero i (b ∷ bs) =
    cond_both (in_word b) _ _ (λ (ws : List SourceWord). length ws ≤ length (b ∷ bs))
    (λ e. omega (arith, words_few (prefix_len in_word bs) (i + 1) bs))
    (λ e. omega (arith, words_few 0 (i + 1) bs))

-- and so has a line
line_words_few : (l : List ℕ) → length (line_words l) ≤ length l
line_words_few l = omega (arith, words_few 0 (prose_start_lem l) (drop (prose_start_lem l) l), length-drop (prose_start_lem l) l)

-- a text has at most so many lines
pub lines_few : (k n i : ℕ) (bs : List ℕ) → length (lines_past k n i bs) ≤ length bs
lines_few zero n i [] = omega arith
lines_few (suc k) n i [] = omega arith
lines_few (suc k) n i (b ∷ bs) = omega (arith, lines_few k n (i + 1) bs)
lines_few zero n i (b ∷ bs) = omega (arith, lines_few (prefix_len in_line (b ∷ bs)) (n + 1) (i + 1) bs)

-- a line that is no longer than a text may be
abbrev pub Short : SourceLine → Type 0
Short l = length l.bytes ≤ 60000

-- the lines of a short text are so
pub lines_short : (k n i : ℕ) (bs : List ℕ) → length bs ≤ 60000 → AllByRecursion Short (lines_past k n i bs)
lines_short zero n i [] h = tt
lines_short (suc k) n i [] h = tt
lines_short (suc k) n i (b ∷ bs) h = lines_short k n (i + 1) bs (omega arith)
lines_short zero n i (b ∷ bs) h =
    let m = prefix_len in_line (b ∷ bs) in
    let fits : m ≤ length (b ∷ bs) = prefix_len-le-length in_line (b ∷ bs) in
    (omega (arith, length-take-le m (b ∷ bs) fits), lines_short m (n + 1) (i + 1) bs (omega arith))

-- a word of a line is one word of its item
items_many : (title : Bool) (l : SourceLine) (ws : List SourceWord) → length (item_words title l ws) ≡ length ws
items_many title l [] = refl
items_many title l (w ∷ ws) = omega (arith, items_many title l ws)

-- a short line has few words
line_few : (title : Bool) (l : SourceLine) → Short l → length (item_words title l (line_words l.bytes)) ≤ 60000
line_few title l s = omega (arith, items_many title l (line_words l.bytes), line_words_few l.bytes)

-- a title of a short line
abbrev Brief : List ItemWord → Type 0
Brief t = length t ≤ 60000

-- a directive has no title
directive_untitled : (a b : Bool) (n : ℕ) (ts : List (List ItemWord)) → with_title (cond a (contents n) (cond b page_break passed_over)) ts ≡ ts
directive_untitled true b n ts = refl
directive_untitled false true n ts = refl
directive_untitled false false n ts = refl

-- a line adds its title where it is a heading
titled_by : (x : Kind) (l : SourceLine) (ts : List (List ItemWord)) → with_title (item_of x l) ts ≡ cond (heading x) (title_words l ∷ ts) ts
titled_by Heading l ts = refl
titled_by Directive l ts = directive_untitled (bytes_eq l.bytes (codes "!contents")) (bytes_eq l.bytes (codes "!page")) l.number ts
titled_by Remark l ts = refl
titled_by Text l ts = refl

-- there are at most as many titles as lines
pub titles_few : (ls : List SourceLine) → length (titles (items_of ls)) ≤ length ls
titles_few [] = omega arith
titles_few (l ∷ ls) =
    subst (λ (ts : List (List ItemWord)). length ts ≤ length (l ∷ ls)) (sym (titled_by (kind l.bytes) l (titles (items_of ls))))
    (cond_both (heading (kind l.bytes)) _ _ (λ (ts : List (List ItemWord)). length ts ≤ length (l ∷ ls)) (λ e. omega (arith, titles_few ls)) (λ e. omega (arith, titles_few ls)))

-- and each is brief
pub titles_brief : (ls : List SourceLine) → AllByRecursion Short ls → AllByRecursion Brief (titles (items_of ls))
titles_brief [] s = tt
titles_brief (l ∷ ls) s =
    subst (AllByRecursion Brief) (sym (titled_by (kind l.bytes) l (titles (items_of ls))))
    (cond_both (heading (kind l.bytes)) _ _ (AllByRecursion Brief) (λ e. (line_few true l s.0, titles_brief ls s.1)) (λ e. titles_brief ls s.1))

-- setting words sets so many
words_wording : (sh : Shown) (v : Manner) (ws : List ItemWord) → wording (word_acts sh v ws) ≡ length ws
words_wording sh v [] = refl
words_wording sh v (w ∷ ws) = omega (arith, words_wording sh v ws)

-- a line of the contents has two words more than its title
contents_wording : (sh : Shown) (n : ℕ) (ts : List (List ItemWord)) (es : List ContentsLine) → AllByRecursion Brief ts → wording (contents_acts sh n ts es) ≤ length ts * 60002
contents_wording sh n [] es s = omega arith
contents_wording sh n (t ∷ ts) [] s = omega arith
contents_wording sh n (t ∷ ts) (e ∷ es) s =
    omega (arith, s.0, wording_append (entry_acts sh n t e) (contents_acts sh n ts es), wording_append (word_acts sh (in_contents n) t) (set_word e.page acts.contents (at_line_lem n) ∷ end_of_paragraph ∷ []), words_wording sh (in_contents n) t, contents_wording sh n ts es s.1)

module _ (sh : Shown) (ts : List (List ItemWord)) (few : length ts ≤ 60000) (brief : AllByRecursion Brief ts) where
  -- a line of text is its words
  text_wording : (k : Number) (ws : List ItemWord) → wording (text_acts sh k ws) ≡ length ws
  text_wording k [] = refl
  text_wording k (w ∷ ws) = words_wording sh (in_place k) (w ∷ ws)

  -- what a directive asks for
  directive_wording : (a b : Bool) (n : ℕ) (k : Number) → wording (item_acts sh ts k (cond a (contents n) (cond b page_break passed_over))) ≤ 4000000000
  directive_wording true b n k = omega (arith, contents_wording sh n ts sh.contents brief)
  directive_wording false true n k = omega arith
  directive_wording false false n k = omega arith

  -- what a short line of a kind asks for
  kind_wording : (x : Kind) (l : SourceLine) (k : Number) → Short l → wording (item_acts sh ts k (item_of x l)) ≤ 4000000000
  kind_wording Heading l k s = omega (arith, wording_append (word_acts sh (in_place k) (title_words l)) (end_of_paragraph ∷ []), words_wording sh (in_place k) (title_words l), line_few true l s)
  kind_wording Directive l k s = directive_wording (bytes_eq l.bytes (codes "!contents")) (bytes_eq l.bytes (codes "!page")) l.number k
  kind_wording Remark l k s = omega arith
  kind_wording Text l k s = omega (arith, text_wording k (item_words false l (line_words l.bytes)), line_few false l s)

  -- and what short lines do
  pub told_wording : (ls : List SourceLine) (k : Number) → AllByRecursion Short ls → wording (told sh ts k (items_of ls)) ≤ length ls * 4000000000
  told_wording [] k s = omega arith
  told_wording (l ∷ ls) k s =
      let m = number_after_lem k (line_item l) in
      omega (arith, wording_append (item_acts sh ts m (line_item l)) (told sh ts m (items_of ls)), kind_wording (kind l.bytes) l m s.0, told_wording ls m s.1)
