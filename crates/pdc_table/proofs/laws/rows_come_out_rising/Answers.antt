use Rattle.std.proofs.Common.{refl}
use Rattle.pdc_table.specs.Content.{new_content}
use Rattle.pdc_table.proofs.CallLaws.{closed_rise, popped_once, popped_rise, taken_above_all}
use Rattle.pdc_table.proofs.laws.rows_come_out_rising.Goals as goal

pub returns-clause-rise : goal.returns-clause-rise
returns-clause-rise c window columns lanes floor calls = popped_rise c.numbers_rise.ensures (new_content window columns lanes floor) calls tt refl

pub returns-clause-once : goal.returns-clause-once
returns-clause-once c window columns lanes floor calls = closed_rise c.numbers_rise.ensures (new_content window columns lanes floor) calls tt

pub returns-clause-out : goal.returns-clause-out
returns-clause-out c window columns lanes floor calls = popped_once (new_content window columns lanes floor) calls

pub returns-clause-above : goal.returns-clause-above
returns-clause-above c window columns lanes floor calls stream instant cells h = taken_above_all c.numbers_rise.ensures (new_content window columns lanes floor) calls stream instant cells h
