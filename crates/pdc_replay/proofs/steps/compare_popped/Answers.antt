use Rattle.std.proofs.Common.{◌≡◌, ◌*◌, ◌<◌, subst}
use Rattle.std.specs.Prelude.{OnOk}
use Rattle.pdc_frame.specs.declared.tag_limits.TheConstants.{SECONDS}
use Rattle.pdc_row.specs.Layout.{wire_of}
use Rattle.pdc_row.specs.RowView.{row_view}
use Rattle.pdc_row.specs.declared.due_row.DueRow.{DueRow}
use Rattle.pdc_replay.proofs.Alike.{frame_of_life}
use Rattle.pdc_replay.proofs.steps.compare_popped.Goals as goal

pub returns-in-Some : goal.returns-in-Some
returns-in-Some g c = record {
  as_recorded = λ g' E stands. frame_of_life c.compare_frame.result c.args.recorded c.in-Some.frame (row_view c.args.row.now.value)
      c.output.result g'.output c.in-Some.is (c.output.ensures.life g' E stands)
      (subst (λ (r : DueRow). r.instant < SECONDS * c.output.result.rate → OnOk c.compare_frame.result (c.in-Some.frame.now ≡ wire_of c.output.result (row_view r))) c.get.ensures c.compare_frame.ensures.as_recorded);
}
