use Rattle.pdc_simulation.proofs.OneEach.{one_frame_an_instant, one_section_a_count}
use Rattle.pdc_simulation.proofs.laws.what_is_read_is_one.Goals as goal

pub returns-clause-instant : goal.returns-clause-instant
returns-clause-instant c = one_frame_an_instant c.frames_are_read_in_one_way.ensures.same c.tag_comes_back.ensures.of_tag_of

pub returns-clause-count : goal.returns-clause-count
returns-clause-count c = one_section_a_count c.frames_are_read_in_one_way.ensures.same c.configurations_are_read_in_one_way.ensures.same
