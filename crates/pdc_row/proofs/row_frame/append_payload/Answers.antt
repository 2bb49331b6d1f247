use Rattle.std.proofs.Common.{List, ℕ, ◌++◌, ap, ◌∙◌, append_assoc}
use Rattle.pdc_row.specs.pdc_block.Block.{bytes_of_words}
use Rattle.pdc_row.specs.KeptBlocks.{bytes_of}
use Rattle.pdc_row.specs.Layout.{own_block}
use Rattle.pdc_row.proofs.row_frame.append_payload.Goals as goal

pub returns-clause-content : goal.returns-clause-content
returns-clause-content g c =
    let row = c.args.row.now in
    let own : List ℕ = bytes_of_words (own_block row.start row.change) in
    let old : List ℕ = g.B.Buffer.content c.args.out.now in
    let begun : List ℕ = g.B.Buffer.content c.append_own_block.new.out in
    c.append_bytes.ensures.bytes ∙ ap (λ (t : List ℕ). begun ++ t) c.bytes.ensures.bytes
    ∙ ap (λ (t : List ℕ). t ++ bytes_of row.blocks) c.append_own_block.ensures.content ∙ append_assoc old own (bytes_of row.blocks)
