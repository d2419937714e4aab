-- What the types of entries and tables say of their plain values.
use Rattle.std.proofs.Common.{◌≡◌, ◌≤◌, true, List, [], ◌∷◌, map, length, arith}
use Rattle.std.specs.List.{AllByRecursion}
use Rattle.std.proofs.lemmas.List.{length-map}
use Rattle.std.proofs.lemmas.Bool.{and_from, le-leb}
use Rattle.record.specs.Positions.{label_ok, heading_ok}
use Rattle.record.specs.Lists.{lists_of}
use Rattle.record.specs.Meaning.{label_of, position_of}
use Rattle.record.specs.declared.entry.label.LabelEntry.{LabelEntry}
use Rattle.record.specs.declared.entry.contents.ContentsEntry.{ContentsEntry}
use Rattle.record.specs.declared.table.Table.{Table}

pub label_entry_ok : (e : LabelEntry) → label_ok (label_of e) ≡ true
label_entry_ok e = and_from _ _ e.name.right (and_from _ _ e.number.sound (and_from _ _ (le-leb 1 _ e.page.within.0) (le-leb _ 999 e.page.within.1)))

pub contents_entry_ok : (e : ContentsEntry) → heading_ok (position_of e) ≡ true
contents_entry_ok e = and_from _ _ (le-leb 1 _ e.headed) (and_from _ _ e.number.sound (and_from _ _ (le-leb 1 _ e.page.within.0) (le-leb _ 999 e.page.within.1)))

pub labels_ok : (es : List LabelEntry) → AllByRecursion (λ l. label_ok l ≡ true) (map label_of es)
labels_ok [] = tt
labels_ok (e ∷ es) = (label_entry_ok e, labels_ok es)

pub contents_ok : (es : List ContentsEntry) → AllByRecursion (λ p. heading_ok p ≡ true) (map position_of es)
contents_ok [] = tt
contents_ok (e ∷ es) = (contents_entry_ok e, contents_ok es)

pub few_labels : (t : Table) → length (lists_of t).labels ≤ 128
few_labels t = omega (arith, length-map t.labels.list.items label_of, t.labels.list.ok.0, t.labels.few)

pub few_contents : (t : Table) → length (lists_of t).contents ≤ 128
few_contents t = omega (arith, length-map t.contents.list.items position_of, t.contents.list.ok.0, t.contents.few)
