use Rattle.std.proofs.Common.{ap, arith, length}
use Rattle.pdc_row.specs.RowView.{row_view}
use Rattle.pdc_row.specs.Layout.{wire_of}
use Rattle.pdc_publisher.proofs.Fitting.{appended, framed_of}
use Rattle.pdc_publisher.proofs.published.frame_of.Goals as goal

pub unwrap-requires : goal.unwrap-requires
unwrap-requires c = c.append_row.ensures.room (omega (arith, c.append_row.ensures.most, ap length c.new-bytes.ensures))

pub returns-clause-frame : goal.returns-clause-frame
returns-clause-frame c =
    let room = c.append_row.ensures.room (omega (arith, c.append_row.ensures.most, ap length c.new-bytes.ensures)) in
    framed_of c.args.output.now c.args.row.now _ c.are_whole.ensures c.requires
    (appended c.append_row.result c.append_row.new.out.items _ (wire_of c.args.output.now (row_view c.args.row.now)) room c.append_row.ensures.ok c.new-bytes.ensures)

pub invariant_of-result : goal.invariant_of-result
invariant_of-result c =
    let room = c.append_row.ensures.room (omega (arith, c.append_row.ensures.most, ap length c.new-bytes.ensures)) in
    record {
      of_some_row = ∣ (
        row_view c.args.row.now,
        framed_of c.args.output.now c.args.row.now _ c.are_whole.ensures c.requires
            (appended c.append_row.result c.append_row.new.out.items _ (wire_of c.args.output.now (row_view c.args.row.now)) room c.append_row.ensures.ok c.new-bytes.ensures),
      ) ∣₁;
    }
