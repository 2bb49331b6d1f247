use Rattle.std.proofs.Common.{arith, ◌≡◌, ◌∙◌, ◌<◌, ap}
use Rattle.pdc_pipe.specs.Writing.{put_by}
use Rattle.pdc_pipe.specs.pdc_memory.Held.{HeldValue}
use Rattle.pdc_publisher.specs.PublishedRow.{row_of}
use Rattle.pdc_publisher.specs.Publisher.{last_in}
use Rattle.pdc_row.specs.RowView.{RowView}
use Rattle.pdc_row.specs.declared.due_row.DueRow.{DueRow}
use Rattle.pdc_aligner.proofs.Sequences.{rises_either}
use Rattle.pdc_aligner.proofs.publishing.publish_one.Goals as goal

pub returns-in-Ok-clause-rising : goal.returns-in-Ok-clause-rising
returns-in-Ok-clause-rising g c =
    let row : RowView = row_of c.in-Ok.published in
    let popped : c.replace-popped.result.value.instant ≡ c.args.row.now.value.instant = ap (λ (held : HeldValue DueRow). held.value.instant) c.replace-popped.ensures.value in
    let at : row.instant ≡ c.args.row.now.value.instant = ap (λ (r : RowView). r.instant) c.in-Ok.ensures.ok ∙ popped in
    let later : last_in c.args.publisher.now < row.instant = omega (arith, at, c.requires.above) in
    let last : last_in c.publish_row.new.self ≡ row.instant = omega (arith, at, popped, c.in-Ok.ensures.last) in
    rises_either c.put_row.result c.in-Ok.published.output row (put_by c.args.writer.now) (put_by c.put_row.new.writer) (last_in c.args.publisher.now) (last_in c.publish_row.new.self)
    c.put_row.ensures.frame c.put_row.ensures.none later last
