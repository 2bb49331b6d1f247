use Rattle.pdc_world.proofs.HeadlineNames.{A, B, seen_of}
use Rattle.pdc_world.proofs.{Cuts.{CutLaws}, Genuine.{NodesAreGenuine}, Sources.{genuine_frames_hold}, Told.{so_does}, Worlds.{of_frames}}
use Rattle.pdc_world.proofs.laws.node_blocks_are_genuine.Goals as goal

pub returns : goal.returns
returns g c =
    let C : CutLaws = record {
      parts = c.parts_keep_their_words.ensures;
      one_config = c.configurations_are_read_in_one_way.ensures.same;
      one_cut = c.payloads_are_cut_in_one_way.ensures.same;
      size = c.payloads_are_cut_in_one_way.ensures.size;
      found = c.payloads_are_cut_in_one_way.ensures.found;
    } in
    let k = of_frames NodesAreGenuine c.args.world.now c.node_blocks_are_genuine.ensures c.holds_some_history.ensures in (
      genuine_frames_hold c.instant_is_nearest.ensures.computed C (seen_of c.args.world.now) A (so_does (λ n. n.0) k),
      genuine_frames_hold c.instant_is_nearest.ensures.computed C (seen_of c.args.world.now) B (so_does (λ n. n.1) k),
    )
