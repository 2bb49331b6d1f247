use Rattle.pdc_block.proofs.Cuts.{cut_of_blocks}
use Rattle.pdc_block.proofs.writing.join.Goals as goal

pub returns-in_err-make_room-clause-cut : goal.returns-in_err-make_room-clause-cut
returns-in_err-make_room-clause-cut g c = cut_of_blocks c.args.blocks.now

pub returns-clause-cut : goal.returns-clause-cut
returns-clause-cut g c = cut_of_blocks c.args.blocks.now
