use Rattle.std.proofs.Common.{subst}
use Rattle.pdc_row.specs.RowView.{row_view}
use Rattle.pdc_row.specs.declared.output.Output.{Output}
use Rattle.pdc_publisher.specs.Published.{IsRowFrame}
use Rattle.pdc_publisher.proofs.publisher.Publisher.publish_lent.Goals as goal

pub returns-clause-ok : goal.returns-clause-ok
returns-clause-ok g c =
    let frame = c.frame_of.result in
    subst (λ (output : Output). IsRowFrame frame.instant frame.start frame.change frame.bytes.items output (row_view c.args.row.now)) c.reserve-reserved.ensures.kept.0 c.frame_of.ensures.frame
