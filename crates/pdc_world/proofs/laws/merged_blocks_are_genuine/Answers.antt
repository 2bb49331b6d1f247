use Rattle.pdc_world.proofs.HeadlineNames.{M, seen_of}
use Rattle.pdc_world.proofs.{Cuts.{CutLaws}, Genuine.{MergerIsGenuine}, Sources.{genuine_frames_hold}, Worlds.{of_frames}}
use Rattle.pdc_world.proofs.laws.merged_blocks_are_genuine.Goals as goal

pub returns : goal.returns
returns g c =
    let C : CutLaws = record {
      parts = c.parts_keep_their_words.ensures;
      one_config = c.configurations_are_read_in_one_way.ensures.same;
      one_cut = c.payloads_are_cut_in_one_way.ensures.same;
      size = c.payloads_are_cut_in_one_way.ensures.size;
      found = c.payloads_are_cut_in_one_way.ensures.found;
    } in
    genuine_frames_hold c.instant_is_nearest.ensures.computed C (seen_of c.args.world.now) M
    (of_frames MergerIsGenuine c.args.world.now c.merged_blocks_are_genuine.ensures.genuine c.holds_some_history.ensures)
