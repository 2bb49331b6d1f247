use Rattle.std.proofs.Common.{refl}
use Rattle.pdc_table.specs.Content.{new_content}
use Rattle.pdc_table.proofs.Due.{close_where_due, new_awaited}
use Rattle.pdc_table.proofs.laws.rows_close_where_due.Goals as goal

pub returns : goal.returns
returns c window columns lanes floor calls rule layout h =
    close_where_due c.numbers_rise.ensures (new_content window columns lanes floor) calls rule layout refl tt (new_awaited window columns lanes floor) h
