-- Two values are the same where their parts are, whatever the proofs in them.
use Rattle.std.specs.Prelude.{◌≡◌, ◌-◌, ◌++◌, length, replicate}
use Rattle.std.proofs.Common.{sym, ap, ◌∙◌, arith, take-append-drop, length-take-le}
use mathlib.Core.HLevel.{is_prop→PathP}
use denote.Struct.Props.{props}
use Rattle.numerals.specs.Same.{number_same}
use Rattle.record.specs.Naming.{name_bytes}
use Rattle.record.specs.Meaning.{label_of, position_of}
use Rattle.record.specs.declared.name.Name.{Name, long-type, right-type, padded-type}
use Rattle.record.specs.declared.entry.label.LabelEntry as label
use Rattle.record.specs.declared.entry.contents.ContentsEntry as contents
use Rattle.pages.specs.declared.Page.{Page, within-type}
use Rattle.record.specs.declared.entries.Entries.{Entries, roomy-type, few-type}
use Rattle.record.specs.declared.table.Table.{Table}

pub name_same : (a b : Name) → a.bytes ≡ b.bytes → a.len ≡ b.len → a ≡ b
name_same a b p q =
    let l = is_prop→PathP (λ i. long-type (p i) (q i)) (λ i. hlevel props) a.long b.long in
    let r = is_prop→PathP (λ i. right-type (p i) (q i) (l i)) (λ i. hlevel props) a.right b.right in
    let d = is_prop→PathP (λ i. padded-type (p i) (q i) (l i) (r i)) (λ i. hlevel props) a.padded b.padded in
    λ i. record { bytes = p i; len = q i; long = l i; right = r i; padded = d i }

pub page_same : (a b : Page) → a.number ≡ b.number → a ≡ b
page_same a b p =
    let w = is_prop→PathP (λ i. within-type (p i)) (λ i. hlevel props) a.within b.within in
    λ i. record { number = p i; within = w i }

pub label_same : (a b : label.LabelEntry) → a.name ≡ b.name → a.number ≡ b.number → a.page ≡ b.page → a ≡ b
label_same a b n m p = λ i. record { name = n i; number = m i; page = p i }

pub contents_same : (a b : contents.ContentsEntry) → a.number ≡ b.number → a.page ≡ b.page → a ≡ b
contents_same a b m p =
    let h = is_prop→PathP (λ i. contents.headed-type (m i) (p i)) (λ i. hlevel props) a.headed b.headed in
    λ i. record { number = m i; page = p i; headed = h i }

-- names are told apart by their bytes
pub name_by_bytes : (a b : Name) → name_bytes a ≡ name_bytes b → a ≡ b
name_by_bytes a b e =
    let la : length (name_bytes a) ≡ a.len = length-take-le a.len a.bytes (omega (arith, a.long)) in
    let lb : length (name_bytes b) ≡ b.len = length-take-le b.len b.bytes (omega (arith, b.long)) in
    let n : a.len ≡ b.len = sym la ∙ ap length e ∙ lb in
    let rest = a.padded ∙ ap (λ k. replicate (16 - k) 0) n ∙ sym b.padded in
    name_same a b (sym (take-append-drop a.len a.bytes) ∙ (λ i. e i ++ rest i) ∙ take-append-drop b.len b.bytes) n

-- entries are told apart by their plain values
pub label_by_value : (a b : label.LabelEntry) → label_of a ≡ label_of b → a ≡ b
label_by_value a b e =
    label_same a b (name_by_bytes _ _ (ap (λ l. l.name) e))
    (number_same _ _ (ap (λ l. l.position.level) e) (ap (λ l. l.position.counters) e))
    (page_same _ _ (ap (λ l. l.position.page) e))

pub contents_by_value : (a b : contents.ContentsEntry) → position_of a ≡ position_of b → a ≡ b
contents_by_value a b e =
    contents_same a b (number_same _ _ (ap (λ l. l.level) e) (ap (λ l. l.counters) e)) (page_same _ _ (ap (λ l. l.page) e))

-- lists of entries, and tables, are told apart by their vectors
entries_same : {E : Type 0} (a b : Entries E) → a.list ≡ b.list → a ≡ b
entries_same {E} a b p =
    let r = is_prop→PathP (λ i. roomy-type E (p i)) (λ i. hlevel props) a.roomy b.roomy in
    let f = is_prop→PathP (λ i. few-type E (p i) (r i)) (λ i. hlevel props) a.few b.few in
    λ i. record { list = p i; roomy = r i; few = f i }

pub table_same : (a b : Table) → a.labels.list ≡ b.labels.list → a.contents.list ≡ b.contents.list → a ≡ b
table_same a b p q = λ i. record { labels = entries_same a.labels b.labels p i; contents = entries_same a.contents b.contents q i }
