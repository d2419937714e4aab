-- One line, or one line of the contents, and what is left after it.
use Rattle.std.proofs.Common.{◌≡◌, ℕ, ◌+◌, ◌<◌, ◌≤◌, true, List, [], ◌∷◌, ◌++◌, length, get_or, drop, sym, refl, ap, ◌∙◌, subst}
use Rattle.std.proofs.lemmas.List.{at_drop_more, at_drop_all}
use Rattle.std.proofs.lemmas.Bool.{and_parts}
use Rattle.compose.specs.Acts.{Number}
use Rattle.manuscript.specs.Rules.{line_kept, lines_kept, headings}
use Rattle.numerals.specs.declared.style.NumeralStyle.{NumeralStyle}
use Rattle.reader.specs.Lines.{SourceLine}
use Rattle.record.specs.Meaning.{position_of}
use Rattle.record.specs.declared.entry.contents.ContentsEntry.{ContentsEntry}
use Rattle.typeset.specs.Items.{ItemWord, line_item, items_of}
use Rattle.typeset.specs.Numbering.{Room, number_after_lem}
use Rattle.typeset.specs.Script.{entry_acts, contents_acts, item_acts, told}
use Rattle.typeset.specs.Shown.{Shown, contents_line}
use Rattle.typeset.specs.Walking.{entry_lines}
use Rattle.typeset.proofs.Numbers.{room_after}

-- the acts of the first of the lines, and those of the others
pub line_first : (sh : Shown) (ts : List (List ItemWord)) (k k' : Number) {ls ms : List SourceLine} (l : SourceLine) → ls ≡ l ∷ ms → k' ≡ number_after_lem k (line_item l) → told sh ts k (items_of ls) ≡ item_acts sh ts (number_after_lem k (line_item l)) (line_item l) ++ told sh ts k' (items_of ms)
line_first sh ts k k' {ls} {ms} l e n = ap (λ v. told sh ts k (items_of v)) e ∙ ap (λ (m : Number). item_acts sh ts (number_after_lem k (line_item l)) (line_item l) ++ told sh ts m (items_of ms)) (sym n)

pub none_left : (sh : Shown) (ts : List (List ItemWord)) (k : Number) {ls : List SourceLine} → ls ≡ [] → told sh ts k (items_of ls) ≡ []
none_left sh ts k e = ap (λ v. told sh ts k (items_of v)) e

pub first_kept : {ls ms : List SourceLine} {l : SourceLine} → ls ≡ l ∷ ms → lines_kept ls ≡ true → (line_kept l ≡ true) × (lines_kept ms ≡ true)
first_kept {l = l} e h = and_parts (line_kept l) _ (sym (ap lines_kept e) ∙ h)

-- the room that is left after the first line
pub room_left : {ls ms : List SourceLine} (l : SourceLine) (k k' : Number) → ls ≡ l ∷ ms → k' ≡ number_after_lem k (line_item l) → Room k.counters (headings ls) → Room k'.counters (headings ms)
room_left {ls} {ms} l k k' e n r = subst (λ (m : Number). Room m.counters (headings ms)) (sym n) (room_after l k (headings ms) (subst (λ h. Room k.counters h) (ap headings e) r))

module _ (sh : Shown) (n : ℕ) (s : NumeralStyle) (es : List ContentsEntry) (i : ℕ) where
  -- the line of the i-th entry, and those of the later ones
  pub entry_first : {ts us : List (List ItemWord)} (e : ContentsEntry) (t : List ItemWord) → i < length es → e ≡ get_or es i e → ts ≡ t ∷ us → contents_acts sh n ts (entry_lines s (drop i es)) ≡ entry_acts sh n t (contents_line s (position_of e)) ++ contents_acts sh n us (entry_lines s (drop (i + 1) es))
  entry_first {ts} {us} e t h x y =
      ap (λ v. contents_acts sh n v (entry_lines s (drop i es))) y
      ∙ at_drop_more (λ v. contents_acts sh n (t ∷ us) (entry_lines s v)) es i e h
      ∙ ap (λ (v : ContentsEntry). entry_acts sh n t (contents_line s (position_of v)) ++ contents_acts sh n us (entry_lines s (drop (i + 1) es))) (sym x)

  pub no_title_left : {ts : List (List ItemWord)} → ts ≡ [] → contents_acts sh n ts (entry_lines s (drop i es)) ≡ []
  no_title_left y = ap (λ v. contents_acts sh n v (entry_lines s (drop i es))) y

  pub no_entry_left : (ts : List (List ItemWord)) → length es ≤ i → contents_acts sh n ts (entry_lines s (drop i es)) ≡ []
  no_entry_left ts h = at_drop_all (λ v. contents_acts sh n ts (entry_lines s v)) es i h ∙ nothing ts
    where
      nothing : (ts : List (List ItemWord)) → contents_acts sh n ts [] ≡ []
      nothing [] = refl
      nothing (t ∷ ts) = refl
