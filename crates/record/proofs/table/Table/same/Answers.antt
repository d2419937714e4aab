use Rattle.record.specs.Lists.{lists_of}
use Rattle.record.proofs.Whole.{decides_labels, decides_contents, decides_lists, decides_both, decides_first}
use Rattle.record.proofs.table.Table.same.Goals as goal

pub returns-then-equal_lists : goal.returns-then-equal_lists
returns-then-equal_lists c =
    let labels = decides_labels _ _ _ (decides_lists c.as_slice.ensures.value c.as_slice-2.ensures.value c.equal_lists.ensures) in
    let contents = decides_contents _ _ _ (decides_lists c.as_slice-then-equal_lists.ensures.value c.as_slice-then-equal_lists-2.ensures.value c.equal_lists-then-equal_lists.ensures) in
    decides_both (lists_of c.args.self.now) (lists_of c.args.other.now) _ labels _ c.if-equal_lists.true contents

pub returns-else-equal_lists : goal.returns-else-equal_lists
returns-else-equal_lists c =
    let labels = decides_labels _ _ _ (decides_lists c.as_slice.ensures.value c.as_slice-2.ensures.value c.equal_lists.ensures) in
    decides_first (lists_of c.args.self.now) (lists_of c.args.other.now) _ labels c.if-equal_lists.false
