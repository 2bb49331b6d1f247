use Rattle.std.proofs.Common.{[]}
use Rattle.pdc_session.proofs.Served.{memory_cuts_short, one_answer, served_new, served_pieces}
use Rattle.pdc_session.proofs.laws.pieces_do_not_matter.Goals as goal

pub returns-clause-stream : goal.returns-clause-stream
returns-clause-stream c = λ serving pieces s t base grown new fed. served_pieces serving pieces s t [] base base grown fed (served_new serving base s new)

pub returns-clause-same : goal.returns-clause-same
returns-clause-same c = one_answer c.streams_split_in_one_way.ensures.framer c.streams_split_in_one_way.ensures.only c.frames_are_read_in_one_way.ensures.same c.commands_are_read_in_one_way.ensures.same

pub returns-clause-memory : goal.returns-clause-memory
returns-clause-memory c = memory_cuts_short c.streams_split_in_one_way.ensures.framer c.streams_split_in_one_way.ensures.only c.streams_split_in_one_way.ensures.some c.frames_are_read_in_one_way.ensures.same c.commands_are_read_in_one_way.ensures.same
