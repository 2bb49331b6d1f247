use Rattle.pdc_history.proofs.NodeFrames.{node_blocks_are_genuine}
use Rattle.pdc_history.proofs.laws.node_blocks_are_genuine.Goals as goal

pub returns : goal.returns
returns c W H is = node_blocks_are_genuine c.lives_are_known.ensures c.frames_are_known.ensures c.blocks_are_known.ensures W H is
