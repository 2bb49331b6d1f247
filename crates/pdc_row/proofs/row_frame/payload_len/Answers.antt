use Rattle.std.proofs.Common.{length, ap, arith, length-append}
use Rattle.pdc_row.specs.pdc_block.Block.{bytes_of_words}
use Rattle.pdc_row.specs.KeptBlocks.{bytes_of}
use Rattle.pdc_row.specs.Layout.{own_block}
use Rattle.pdc_row.proofs.row_frame.payload_len.Goals as goal

pub returns-clause-value : goal.returns-clause-value
returns-clause-value c =
    let row = c.args.row.now in
    omega (arith, ap length c.bytes.ensures.bytes, length-append (bytes_of_words (own_block row.start row.change)) (bytes_of row.blocks))
