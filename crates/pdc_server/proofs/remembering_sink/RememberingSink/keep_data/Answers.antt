use Rattle.std.proofs.Common.{rules, ◌≡◌, ◌∙◌, subst, sym}
use Rattle.std.proofs.Math.Logic.{∥∥₁_map}
use Rattle.pdc_pipe.specs.pdc_publisher.PublishedRow.{row_of}
use Rattle.pdc_server.specs.Stream.{IsData, Stream, stream_of}
use Rattle.pdc_server.specs.declared.stamp.Stamp.{Stamp}
use Rattle.pdc_server.proofs.Keeping.{data_of}
use Rattle.pdc_server.proofs.remembering_sink.RememberingSink.keep_data.Goals as goal

pub show-requires : goal.show-requires
show-requires g c = λ shown lent reads lends κs ref_ptr n bs pair fit u1 u2 fits κs' within.
    let row = c.args.row.now in
    let stamp : Stamp = record { start = c.start.result; change = c.change.result } in
    let same : stream_of row.output ≡ g.N.Naming.stream = c.are_of_one_stream.ensures (search (rules, c.if-not-are_of_one_stream.false)) ∙ sym c.args.self.now.of_stream in
    ∥∥₁_map row.fits (λ fitting.
    subst (λ (s : Stream). IsData s stamp c.instant-instant.result shown.now) same
    (data_of c.rows_are_data.ensures row.output (row_of row) stamp c.instant-instant.result shown.now (sym c.start.ensures) (sym c.change.ensures) (sym c.instant-instant.ensures) reads fitting))
