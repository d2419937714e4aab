-- The entries of a record that a pass makes are those of its text: what the put words enter is what the acts' parts tell, and
-- that is what the items do, whatever is shown.
use Rattle.std.proofs.Common.{◌≡◌, ℕ, List, [], ◌∷◌, ◌++◌, map, length, Some, None, Option, sym, refl, ap, ◌∙◌, subst, append_assoc, arith}
use Rattle.std.proofs.lemmas.List.{append-nil}
use Rattle.compose.specs.Acts.{Part, plain, label, heading, page_reference, number_reference, contents, Act, end_of_paragraph}
use Rattle.compose.specs.Acts as acts
use Rattle.findings.specs.Fitting.{parts, titled, titles_in}
use Rattle.findings.specs.Made.{entered, made}
use Rattle.findings.specs.Next.{found, concluded}
use Rattle.findings.proofs.Parts.{parts_append, parts_of, HasParts, has_parts}
use Rattle.layout.specs.Meaning.{Meaning}
use Rattle.layout.specs.Spots.{page_of}
use Rattle.marks.specs.Parts.{MarkedWord}
use Rattle.marks.specs.declared.mark.Mark.{Mark}
use Rattle.marks.specs.declared.mark.Mark.TheVariants.{Label, Page, Number}
use Rattle.numerals.specs.declared.style.NumeralStyle.{NumeralStyle}
use Rattle.record.specs.Lists.{Lists}
use Rattle.setting.specs.Tracing.{SetWord, Trace, all, upto, trace}
use Rattle.typeset.specs.Items.{ItemWord, Item, items, titles}
use Rattle.typeset.specs.Items as item
use Rattle.typeset.specs.Numbering.{before_any, number_after_lem}
use Rattle.typeset.specs.Script.{in_place, part_by, part_in, word_acts, item_acts, told, script}
use Rattle.typeset.specs.Shown.{Shown, shown}
use Rattle.passes.specs.Entries.{number_at, label_key, label_by, mark_labels, word_labels, item_labels, labels_told, Entries}
use Rattle.passes.specs.Next.{next}
use Rattle.passes.proofs.Headings.{told_titles}
use Rattle.passes.proofs.Parting.{Copies, contents_copied}

-- the label that a part is
abbrev keyed : Part → List (List ℕ × acts.Number)
keyed plain = []
keyed (label n k) = (n, k) ∷ []
keyed (heading k) = []
keyed (page_reference n b a) = []
keyed (number_reference n b a) = []
keyed contents = []

-- the labels among parts
abbrev keys_in : List Part → List (List ℕ × acts.Number)
keys_in [] = []
keys_in (p ∷ ps) = keyed p ++ keys_in ps

-- a word enters the label that its part is
keys_entered : (p : Part) (page : ℕ) (ls : Lists) (ks : List (List ℕ × acts.Number)) → map label_key ls.labels ≡ ks → map label_key (entered p page ls).labels ≡ keyed p ++ ks
keys_entered plain page ls ks h = h
keys_entered (label n k) page ls ks h = ap (λ l. (n, k) ∷ l) h
keys_entered (heading k) page ls ks h = h
keys_entered (page_reference n b a) page ls ks h = h
keys_entered (number_reference n b a) page ls ks h = h
keys_entered contents page ls ks h = h

-- and the number of the heading that it is
numbers_entered : (p : Part) (page : ℕ) (ls : Lists) (ks : List acts.Number) → map number_at ls.contents ≡ ks → map number_at (entered p page ls).contents ≡ titled p ks
numbers_entered plain page ls ks h = h
numbers_entered (label n k) page ls ks h = h
numbers_entered (heading k) page ls ks h = ap (λ l. k ∷ l) h
numbers_entered (page_reference n b a) page ls ks h = h
numbers_entered (number_reference n b a) page ls ks h = h
numbers_entered contents page ls ks h = h

-- the lists have the entries of parts
record Entered (ls : Lists) (ps : List Part) : Type 0 where
  pub keys : map label_key ls.labels ≡ keys_in ps
  pub numbers : map number_at ls.contents ≡ titles_in ps

-- so have those that words make
made_entered : (ws : List SetWord) → Entered (made ws) (parts_of ws)
made_entered [] = record { keys = refl; numbers = refl }
made_entered (w ∷ ws) =
    record {
      keys = keys_entered w.part (page_of w.spot) (made ws) _ (made_entered ws).keys;
      numbers = numbers_entered w.part (page_of w.spot) (made ws) _ (made_entered ws).numbers;
    }

-- and those that a trace comes to
concluded_entered : {P : Type 0} (v : Trace P) (ps : List Part) (ls : Lists) (n : ℕ) → HasParts v ps → concluded v ≡ found ls n → Entered ls ps
concluded_entered (all ws q) ps ls n h e =
    let same : made ws ≡ ls = cc in
    subst (λ (l : Lists). Entered l ps) same (subst (Entered (made ws)) h (made_entered ws))
concluded_entered (upto ws q f) ps ls n h e = absurd (let z : ◌≡◌ {A = ℕ} 0 1 = cc in omega arith)

-- the labels of two lists of parts in a row
keys_append : (a b : List Part) → keys_in (a ++ b) ≡ keys_in a ++ keys_in b
keys_append [] b = refl
keys_append (p ∷ a) b = ap (λ ks. keyed p ++ ks) (keys_append a b) ∙ sym (append_assoc (keyed p) (keys_in a) (keys_in b))

-- and of two lists of acts
keys_parted : (a b : List Act) → keys_in (parts (a ++ b)) ≡ keys_in (parts a) ++ keys_in (parts b)
keys_parted a b = ap keys_in (parts_append a b) ∙ keys_append (parts a) (parts b)

-- the contents have none
no_keys : (ps : List Part) → Copies ps → keys_in ps ≡ []
no_keys [] c = refl
no_keys (p ∷ ps) c = ap (λ q. keyed q ++ keys_in ps) c.0 ∙ no_keys ps c.1

-- a mark is a label as its part is
keyed_by : (k : acts.Number) (x : Mark) (n : List ℕ) (b a : ℕ) → keyed (part_by k x n b a) ≡ label_by k x n
keyed_by k Label n b a = refl
keyed_by k Page n b a = refl
keyed_by k Number n b a = refl

-- and so is the mark of a word in its place
keyed_mark : (k : acts.Number) (o : Option MarkedWord) → keyed (part_in (in_place k) o) ≡ mark_labels k o
keyed_mark k None = refl
keyed_mark k (Some m) = keyed_by k m.mark m.name (length m.prefix) (length m.suffix)

module _ (sh : Shown) (ts : List (List ItemWord)) where
  -- words in their place have their labels
  words_keys : (k : acts.Number) (ws : List ItemWord) → keys_in (parts (word_acts sh (in_place k) ws)) ≡ word_labels k ws
  words_keys k [] = refl
  words_keys k (w ∷ ws) = (λ i. keyed_mark k w.mark i ++ words_keys k ws i)

  -- and so has an item
  item_keys : (k : acts.Number) (i : Item) → keys_in (parts (item_acts sh ts k i)) ≡ item_labels k i
  item_keys k (item.text []) = refl
  item_keys k (item.text (w ∷ ws)) = words_keys k (w ∷ ws)
  item_keys k (item.heading n d ws) = keys_parted (word_acts sh (in_place k) ws) (end_of_paragraph ∷ []) ∙ append-nil _ ∙ words_keys k ws
  item_keys k (item.contents n) = no_keys _ (contents_copied sh n ts sh.contents)
  item_keys k item.page_break = refl
  item_keys k item.passed_over = refl

  -- and so have items
  told_keys : (is : List Item) (k : acts.Number) → keys_in (parts (told sh ts k is)) ≡ labels_told k is
  told_keys [] k = refl
  told_keys (i ∷ is) k =
      let m = number_after_lem k i in
      keys_parted (item_acts sh ts m i) (told sh ts m is) ∙ (λ j. item_keys m i j ++ told_keys is m j)

-- what a pass over a text finds has the text's entries
pub next_entries : {L Mark : Type 0} (m : Meaning L Mark) (s : m.Settings) (style : NumeralStyle) (t : List ℕ) (pass : ℕ) (old ls : Lists) (n : ℕ) → next m s style t pass old ≡ found ls n → Entries t ls
next_entries m s style t pass old ls n e =
    let acts = script style old (items t) in
    let sh = shown style old in
    let has = concluded_entered (trace m s pass (m.opening s) acts) (parts acts) ls n (has_parts m s pass acts (m.opening s)) e in
    record {
      labels = has.keys ∙ told_keys sh (titles (items t)) (items t) before_any;
      contents = has.numbers ∙ told_titles sh (titles (items t)) (items t) before_any;
    }
