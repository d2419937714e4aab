use Rattle.record.specs.Lists.{lists_of}
use Rattle.record.specs.Meaning.{label_of}
use Rattle.record.proofs.Apart.{none_is_left, changes_apart}
use Rattle.record.proofs.record.Record.add_label.Goals as goal

pub invariant_of-self : goal.invariant_of-self
invariant_of-self c =
    let self = c.args.self.now in
    let absent = none_is_left c.find.result _ c.is_some.result c.find.ensures.value c.is_some.ensures c.if-is_some.false in
    record { apart = changes_apart _ _ (lists_of self.table) (lists_of c.add_label.new.self) (label_of c.args.entry) c.add_label.ensures absent self.apart }
