use Rattle.std.proofs.Common.{◌≡◌, drop, false, length, true}
use Rattle.pdc_columns.specs.Taking.{any_second, cells_in, with_cells}
use Rattle.pdc_columns.proofs.columns.Columns.put_each.Given as goal

-- what is left goes into the columns as they are
abbrev pub invariant-loop-cell : goal.invariant-loop-cell
invariant-loop-cell g l = record {
  columns : with_cells l.lane (cells_in g.B.Offered.view (drop l.cell-index l.cells) l.quality) l.self ≡ with_cells l.lane (cells_in g.B.Offered.view l.cells l.quality) l.initial.self;
  count : length l.self ≡ length l.initial.self;
  alone : l.is_alone ≡ true → any_second l.self ≡ false;
}
