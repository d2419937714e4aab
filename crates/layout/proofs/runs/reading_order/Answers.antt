use Rattle.layout.proofs.Order.{reading_order_lem, printed_order_lem}
use Rattle.layout.proofs.runs.reading_order.Goals as goal

pub returns : goal.returns
returns g c =
    let m = g.L.Layout.meaning in
    let laws = g.L.Layout.lawful in
    record { order = reading_order_lem m laws; within = printed_order_lem m laws }
