use Rattle.std.proofs.lemmas.Bool.{false≢true}
use Rattle.std.proofs.Common.{ℕ, ◌+◌, List, ◌++◌, length, ap, ◌∙◌, arith}
use Rattle.pdc_row.specs.pdc_frame.Frame.{Fields, header_of}
use Rattle.pdc_row.specs.RowView.{RowView, row_view}
use Rattle.pdc_row.specs.Layout.{row_fields}
use Rattle.pdc_row.proofs.RowFrames.{head_of, row_is_frame}
use Rattle.pdc_row.proofs.row_frame.append_row.Goals as goal

pub returns-in_err-begin_frame-clause-frame : goal.returns-in_err-begin_frame-clause-frame
returns-in_err-begin_frame-clause-frame g c =
    let row : RowView = row_view c.args.row.now in
    row_is_frame c.args.output.now row (c.head_of-head.result.soc, c.head_of-head.result.frac) c.head_of-head.ensures.tag c.in_err-begin_frame.ensures.soc c.head_of-head.ensures.count
    (omega (arith, ap (λ (f : Fields). f.quality) c.head_of-head.ensures.fields, c.in_err-begin_frame.ensures.quality)) (omega (arith, c.payload_len.ensures.value, c.payload_len.ensures.most))

pub returns-clause-frame : goal.returns-clause-frame
returns-clause-frame g c =
    let row : RowView = row_view c.args.row.now in
    row_is_frame c.args.output.now row (c.head_of-head.result.soc, c.head_of-head.result.frac) c.head_of-head.ensures.tag c.in_ok-begin_frame.ensures.soc c.head_of-head.ensures.count
    (omega (arith, ap (λ (f : Fields). f.quality) c.head_of-head.ensures.fields, c.in_ok-begin_frame.ensures.quality)) (omega (arith, c.payload_len.ensures.value, c.payload_len.ensures.most))

pub returns-clause-ok : goal.returns-clause-ok
returns-clause-ok g c =
    let s = c.args.output.now in
    let row : RowView = row_view c.args.row.now in
    let f : Fields = row_fields s row in
    let old : List ℕ = g.B.Buffer.content c.args.out.now in
    let begun = c.in_ok-begin_frame.ensures.ok
    ∙ ap (λ (h : Fields). old ++ header_of h (c.payload_len.result + 16)) c.head_of-head.ensures.fields
    ∙ ap (λ (t : ℕ × ℕ). old ++ header_of (head_of s row t) (c.payload_len.result + 16)) c.head_of-head.ensures.tag
    ∙ ap (λ (n : ℕ). old ++ header_of f (n + 16)) c.payload_len.ensures.value in
    c.frames_are_written_in_parts.ensures.spelled f old _ _ _ _ (ap length c.content-start.ensures) begun c.append_payload.ensures.content c.end_frame.ensures.items

pub returns-in_err-begin_frame-clause-room : goal.returns-in_err-begin_frame-clause-room
returns-in_err-begin_frame-clause-room g c =
    let f : Fields = row_fields c.args.output.now (row_view c.args.row.now) in
    λ room. absurd (false≢true (c.in_err-begin_frame.ensures.room (omega (arith, room, c.payload_len.ensures.value, c.frames_are_written_in_parts.ensures.len f))))

pub returns-clause-in_place : goal.returns-clause-in_place
returns-clause-in_place g c =
    let f : Fields = row_fields c.args.output.now (row_view c.args.row.now) in
    λ room. c.end_frame.ensures.in_place ∙ c.append_payload.ensures.in_place ∙ c.in_ok-begin_frame.ensures.in_place (omega (arith, room, c.payload_len.ensures.value, c.frames_are_written_in_parts.ensures.len f))
