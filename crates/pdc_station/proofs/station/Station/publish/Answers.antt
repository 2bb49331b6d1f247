use Rattle.std.proofs.Common.{◌++◌, ◌∙◌}
use Rattle.pdc_station.proofs.Names.{wire_of_some}
use Rattle.pdc_station.proofs.Made.{publish_makes}
use Rattle.pdc_station.proofs.station.Station.publish.Goals as goal

pub returns-clause-call : goal.returns-clause-call
returns-clause-call g c = λ h E stands.
    let row = c.next_row-row.ensures in
    publish_makes g.C.Core.rules h E c.next_row-row.result.1 _ _ _ _ (row.answer h E stands) row.rises row.popped
    (c.publish_some.ensures.bytes ∙ (λ i. c.make_room.ensures.bytes i ++ wire_of_some (row.output h E stands i) (row.answer h E stands i)))
