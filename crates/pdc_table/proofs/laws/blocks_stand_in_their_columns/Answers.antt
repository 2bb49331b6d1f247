use Rattle.pdc_table.proofs.Given.{stands}
use Rattle.pdc_table.proofs.laws.blocks_stand_in_their_columns.Goals as goal

pub returns : goal.returns
returns c lane cells columns h k l = stands lane cells columns h k l
