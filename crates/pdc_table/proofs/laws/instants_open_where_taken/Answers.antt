use Rattle.std.proofs.Common.{refl}
use Rattle.pdc_table.specs.Content.{new_content}
use Rattle.pdc_table.proofs.Follows.{open_where_taken}
use Rattle.pdc_table.proofs.laws.instants_open_where_taken.Goals as goal

pub returns : goal.returns
returns c window columns lanes floor calls i h = open_where_taken c.numbers_rise.ensures (new_content window columns lanes floor) calls i refl tt h
