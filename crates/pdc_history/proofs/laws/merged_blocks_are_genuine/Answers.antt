use Rattle.pdc_history.proofs.MergedBlocks.{held_layouts_were_sent, merged_blocks_are_genuine}
use Rattle.pdc_history.proofs.laws.merged_blocks_are_genuine.Goals as goal

pub returns-clause-held : goal.returns-clause-held
returns-clause-held c W H is = held_layouts_were_sent c.lives_are_known.ensures W H is

pub returns-clause-genuine : goal.returns-clause-genuine
returns-clause-genuine c W H is = merged_blocks_are_genuine c.lives_are_known.ensures c.frames_are_known.ensures c.blocks_are_known.ensures W H is
