use Rattle.std.proofs.Common.{◌≡◌, List, ℕ, ◌+◌, ◌++◌, length, ap, ap₂, ◌∙◌}
use Rattle.pdc_row.specs.pdc_frame.Frame.{Fields, fields_of, header_of}
use Rattle.pdc_row.specs.RowView.{RowView, row_view}
use Rattle.pdc_row.specs.Layout.{row_fields, row_payload}
use Rattle.pdc_row.proofs.RowFrames.{head_of}
use Rattle.pdc_row.proofs.row_frame.write_front.Goals as goal

pub returns : goal.returns
returns c =
    let s = c.args.output.now in
    let row : RowView = row_view c.args.row.now in
    let headed : header_of (fields_of c.head_of-head.result) (c.payload_len.result + 16) ≡ header_of (row_fields s row) (length (row_payload row) + 16) =
    ap (λ (h : Fields). header_of h (c.payload_len.result + 16)) c.head_of-head.ensures.fields
    ∙ ap (λ (t : ℕ × ℕ). header_of (head_of s row t) (c.payload_len.result + 16)) c.head_of-head.ensures.tag
    ∙ ap (λ (n : ℕ). header_of (row_fields s row) (n + 16)) c.payload_len.ensures.value in
    ap₂ (λ (xs ys : List ℕ). xs ++ ys) (c.write_fields.ensures.front ∙ headed) c.write_own_block.ensures
