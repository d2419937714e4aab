use Rattle.std.proofs.Common.{◌≡◌, ℕ, true, List, Ok, Err, Result}
use Rattle.faults.specs.declared.fault.Fault.{Fault}
use Rattle.findings.specs.Keeping.{Kept}
use Rattle.findings.specs.Laws.{told}
use Rattle.findings.specs.Next.{Found, found}
use Rattle.manuscript.proofs.Completing.{accepted_kept}
use Rattle.record.specs.Labels.{distinct}
use Rattle.record.specs.Lists.{Lists, lists_of}
use Rattle.typeset.specs.Items.{items}
use Rattle.typeset.specs.Script.{script}
use Rattle.passes.specs.Entries.{Entries, EntriesMade}
use Rattle.passes.specs.Next.{ApartMade}
use Rattle.passes.proofs.Entries.{next_entries}
use Rattle.passes.proofs.Fit.{scripts_fit, scripts_apart}
use Rattle.passes.proofs.making.find_words.Goals as goal

-- what every record that is found has, the one that an answer tells has: names apart
apart_told : (v : Found) → ((ls : Lists) (n : ℕ) → v ≡ found ls n → distinct ls.labels ≡ true) → (r : Result (Unit {0}) Fault) (x : Kept) → v ≡ told r x → ApartMade r x.lists
apart_told v h (Ok u) x e = h x.lists x.words e
apart_told v h (Err f) x e = tt

-- and the entries of its text
entries_told : (t : List ℕ) (v : Found) → ((ls : Lists) (n : ℕ) → v ≡ found ls n → Entries t ls) → (r : Result (Unit {0}) Fault) (x : Kept) → v ≡ told r x → EntriesMade t r x.lists
entries_told t v h (Ok u) x e = h x.lists x.words e
entries_told t v h (Err f) x e = tt

pub returns : goal.returns
returns g c =
    let t = c.args.task.manuscript.text.now in
    let kept = accepted_kept t c.args.task.manuscript.accepted in
    let style = c.args.task.telling.style in
    let old = lists_of c.args.task.telling.old.now in
    let laws = c.findings_hold.ensures in
    let settings = g.L.Layout.meaning.settings c.args.layout.now in
    let acts = script style old (items t) in
    let is = laws.found _ _ _ (scripts_fit style old t kept) _ _ c.walk_through.ensures.ends in
    record {
      found = is;
      apart = apart_told _ (λ ls n e. laws.apart settings c.args.task.pass acts ls n (scripts_apart style old t kept) e) c.walk_through.result _ is;
      entries = entries_told t _ (λ ls n e. next_entries g.L.Layout.meaning settings style t c.args.task.pass old ls n e) c.walk_through.result _ is;
      settings = c.walk_through.ensures.settings;
    }
