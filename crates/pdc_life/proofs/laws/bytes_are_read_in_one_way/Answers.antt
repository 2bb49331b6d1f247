use Rattle.pdc_life.proofs.MergerReads.{reads_once}
use Rattle.pdc_life.proofs.Stages.{ReadOnce}
use Rattle.pdc_life.proofs.laws.bytes_are_read_in_one_way.Goals as goal

pub returns : goal.returns
returns c kind s sender bytes a b h k =
    let laws : ReadOnce = record {
      same_frame = c.frames_are_read_in_one_way.ensures.same;
      one_fault = c.frames_are_read_in_one_way.ensures.fault;
      no_frame_fault = c.frames_are_read_in_one_way.ensures.apart;
      same_config = c.configurations_are_read_in_one_way.ensures.same;
      one_payload_fault = c.configurations_are_read_in_one_way.ensures.fault;
      no_payload_fault = c.configurations_are_read_in_one_way.ensures.apart;
      instants = c.instant_is_nearest.ensures.computed;
    } in
    reads_once laws c.own_sections_tell_stamps.ensures kind s sender bytes a b h k
