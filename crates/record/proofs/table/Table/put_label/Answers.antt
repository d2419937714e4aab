use Rattle.std.proofs.Common.{◌∙◌}
use Rattle.record.specs.Naming.{name_bytes}
use Rattle.record.specs.Positions.{Label}
use Rattle.record.specs.Lists.{Lists, lists_of, put_position}
use Rattle.record.specs.Meaning.{placed}
use Rattle.record.proofs.Filling.{put_last, page_answer}
use Rattle.record.proofs.table.Table.put_label.Goals as goal

pub returns : goal.returns
returns c =
    let before : Lists = lists_of c.args.self.now in
    let page = c.in_ok-page.ensures in
    let added = c.in_ok-add_label.ensures in
    let blank : Label = record { name = name_bytes c.args.name; position = placed c.before_any.result c.first.result.number } in (
      added.0 ∙ page_answer c.args.page _ page.1,
      c.fill_entry.ensures
          ∙ (λ i. put_position (added.1 i) (c.label_count-place.ensures.value i) (placed c.args.number (page.0 i)))
          ∙ put_last before blank (placed c.args.number c.args.page),
    )
