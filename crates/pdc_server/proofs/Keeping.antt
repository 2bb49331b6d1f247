-- A published frame is a data frame of the stream that it went out under.
use Rattle.std.proofs.Common.{arith, ◌≡◌, ◌≤◌, List, ℕ, subst, sym}
use lib.ListN.{length-map}
use Rattle.pdc_row.specs.declared.output.Output.{Output}
use Rattle.pdc_row.specs.Layout.{wire_of}
use Rattle.pdc_row.specs.CellView.{BlockView}
use Rattle.pdc_row.specs.RowView.{RowView}
use Rattle.pdc_pipe.specs.pdc_publisher.Published.{Fits, shapes_of}
use Rattle.pdc_server.specs.Laws.{RowsAreData}
use Rattle.pdc_server.specs.Stream.{IsData, stream_of}
use Rattle.pdc_server.specs.declared.stamp.Stamp.{Stamp}

pub data_of : RowsAreData → (output : Output) (row : RowView) (stamp : Stamp) (instant : ℕ) (bytes : List ℕ) → row.start ≡ stamp.start → row.change ≡ stamp.change → row.instant ≡ instant → bytes ≡ wire_of output row → Fits output row
    → IsData (stream_of output) stamp instant bytes
data_of are_data output row stamp instant bytes begun changed at wire fits =
    let few = subst (λ n. n ≤ 16) (sym (length-map row.blocks (λ (b : BlockView). b.shape))) fits.few in
    let of_row = are_data output row stamp (shapes_of row) begun changed few fits.shaped fits.tagged (omega (arith, fits.quality)) in
    subst (λ (b : List ℕ). IsData (stream_of output) stamp instant b) (sym wire) (subst (λ (i : ℕ). IsData (stream_of output) stamp i (wire_of output row)) at of_row)
