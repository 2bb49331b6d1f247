use Rattle.std.proofs.Common.{◌∙◌, ap, sym}
use Rattle.std.specs.Cmp.Lexicographic.{same_text}
use Rattle.pdc_row.specs.KeptBlocks.{blocks_in, shapes_of}
use Rattle.pdc_row.proofs.PlacedBlocks.{read_back}
use Rattle.pdc_row.proofs.row_blocks.RowBlocks.has_bytes.Goals as goal

pub returns-clause-same : goal.returns-clause-same
returns-clause-same c =
    λ e.
    ap (blocks_in (shapes_of c.args.self.now)) (sym (same_text c.bytes.result.now c.args.bytes.now (sym e ∙ c.eq.ensures)) ∙ c.bytes.ensures.bytes)
    ∙ read_back c.args.self.now c.are_whole.ensures
