use Rattle.std.proofs.Common.{◌≡◌, List, ℕ, ◌+◌, ◌++◌, length, length-append, ap, ap₂, append_assoc, arith, sym, ◌∙◌}
use Rattle.std.specs.Int.{w16, to_be_bytes}
use Rattle.pdc_row.specs.pdc_frame.CheckWord.{check_word_of}
use Rattle.pdc_row.specs.pdc_frame.Frame.{Fields, fields_of, header_of}
use Rattle.pdc_row.specs.pdc_block.Block.{bytes_of_words}
use Rattle.pdc_row.specs.KeptBlocks.{bytes_of}
use Rattle.pdc_row.specs.RowView.{RowView, row_view}
use Rattle.pdc_row.specs.Layout.{own_block, row_fields, row_payload}
use Rattle.pdc_row.proofs.RowFrames.{head_of}
use Rattle.pdc_row.proofs.row_frame.ends_anew.Goals as goal

pub returns-clause-check : goal.returns-clause-check
returns-clause-check c =
    let s = c.args.output.now in
    let row : RowView = row_view c.args.row.now in
    let blocks : List ℕ = bytes_of c.args.row.now.blocks in
    let own : List ℕ = bytes_of_words (own_block row.start row.change) in
    let header : List ℕ = header_of (row_fields s row) (length (row_payload row) + 16) in
    let size : 14 + length blocks + 16 ≡ length (row_payload row) + 16 = omega (arith, length-append own blocks) in
    let headed : header_of (fields_of c.head_of-head.result) (14 + length blocks + 16) ≡ header =
    ap (λ (h : Fields). header_of h (14 + length blocks + 16)) c.head_of-head.ensures.fields
    ∙ ap (λ (t : ℕ × ℕ). header_of (head_of s row t) (14 + length blocks + 16)) c.head_of-head.ensures.tag
    ∙ ap (λ n. header_of (row_fields s row) n) size in
    c.ends_of.ensures.check
    ∙ ap₂ (λ (h o : List ℕ). to_be_bytes w16 (check_word_of (h ++ (o ++ blocks)))) headed c.write_own_block.ensures
    ∙ ap (λ (bytes : List ℕ). to_be_bytes w16 (check_word_of bytes)) (sym (append_assoc header own blocks))
