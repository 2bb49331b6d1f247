use Rattle.std.proofs.Common.{◌∙◌, List, Some, ap, arith, length, map, replicate, sym}
use Rattle.pdc_row.specs.pdc_cfg.declared.shape.Shape.{Shape}
use Rattle.pdc_row.specs.CellView.{BlockView}
use Rattle.pdc_row.specs.KeptBlocks.{shapes_of}
use Rattle.pdc_columns.specs.ColumnParts.{columns_of}
use Rattle.pdc_columns.specs.Giving.{blocks_of}
use Rattle.pdc_columns.specs.declared.column.Held.{Held}
use Rattle.pdc_columns.proofs.WholeRows.{blocks_once, whole_count}
use Rattle.pdc_columns.proofs.whole.settle.Goals as goal

pub returns-in-Some-gives_here-clause-blocks : goal.returns-in-Some-gives_here-clause-blocks
returns-in-Some-gives_here-clause-blocks c =
    let first : List BlockView = c.args.first.now in
    let second : List BlockView = c.args.second.now in
    sym (blocks_once c.in-Some.one c.in-Some-gives_here.quality first second (omega (arith, c.requires.first, c.requires.second)) c.in-Some-gives_here.ensures)
    ∙ ap (λ n. blocks_of (map (λ (s : Shape). Some s) (shapes_of first)) (columns_of (replicate n c.in-Some.one) first second)) c.requires.first
    ∙ ap (λ (hs : List Held). blocks_of (map (λ (s : Shape). Some s) (shapes_of first)) (columns_of hs first second)) (sym c.in-Some.ensures)

pub returns-clause-len : goal.returns-clause-len
returns-clause-len c = ap length c.give_over.ensures.blocks ∙ whole_count c.args.held.now c.args.first.now c.args.second.now c.requires.first c.requires.second
