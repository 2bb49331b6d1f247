-- The blocks of both nodes' frames are genuine.
use Rattle.pdc_history.proofs.Names.{A, B, BlockLaws, FrameLaws, Happened, HasGenuineFrames, IsHistory, LifeLaws, List, NodeBlocksAreGenuine, seen_in, World}
use Rattle.pdc_history.proofs.{Cuts.{genuine_frames}, Moments.{began}, Nodes.{node_a, node_b, node_is_sourced}}

pub frames_of_a : LifeLaws → FrameLaws → BlockLaws → (W : World) (H : List Happened) → IsHistory W H → HasGenuineFrames (seen_in W H) A
frames_of_a L F K W H is = genuine_frames L F K W H A (node_is_sourced L K W A W.a.settings (node_a W)) is

pub frames_of_b : LifeLaws → FrameLaws → BlockLaws → (W : World) (H : List Happened) → IsHistory W H → HasGenuineFrames (seen_in W H) B
frames_of_b L F K W H is = genuine_frames L F K W H B (node_is_sourced L K W B W.b.settings (node_b W (began W H is).settings)) is

pub node_blocks_are_genuine : LifeLaws → FrameLaws → BlockLaws → NodeBlocksAreGenuine
node_blocks_are_genuine L F K W H is = (frames_of_a L F K W H is, frames_of_b L F K W H is)
