use Rattle.std.proofs.Common.{◌++◌, ◌∙◌, ap, List, sym, ℕ}
use Rattle.pdc_station.proofs.Names.{Output, row_view, wire_of}
use Rattle.pdc_station.proofs.publishes.publish_row.Goals as goal

pub returns-clause-bytes : goal.returns-clause-bytes
returns-clause-bytes g c =
    let framed = rw c.unwrap-frame.ensures at c.publish_lent.ensures.ok in
    c.append_bytes.ensures.bytes
    ∙ ap (λ (xs : List ℕ). g.B.Buffer.content c.args.out.now ++ xs)
    (c.as_slice.ensures.value ∙ framed.wire ∙ ap (λ (output : Output). wire_of output (row_view c.args.row.now)) (sym c.requires.says))
