use Rattle.std.proofs.Common.{◌≡◌, get_or, refl}
use Rattle.pdc_table.specs.Content.{lane_of, new_content}
use Rattle.pdc_table.specs.Histories.{first_put}
use Rattle.pdc_open_row.specs.pdc_columns.Taking.{cell_in}
use Rattle.pdc_open_row.specs.pdc_columns.Views.{empty_column}
use Rattle.pdc_table.proofs.Follows.{of_told}
use Rattle.pdc_table.proofs.laws.cells_are_first_puts.Goals as goal

pub returns : goal.returns
returns c window columns lanes floor calls s k i h l m o =
    of_told c.numbers_rise.ensures (new_content window columns lanes floor) calls i refl tt h
    (λ row. cell_in (lane_of (new_content window columns lanes floor) s) (get_or row.columns k empty_column) ≡ first_put (new_content window columns lanes floor) calls s k i)
    (λ row told. told.cells s k l m o)
