use Rattle.pdc_frame.proofs.Streams.{one_split, taken_split}
use Rattle.pdc_frame.proofs.Splitting.{every_split}
use Rattle.pdc_frame.proofs.Written.{written_split}
use Rattle.pdc_frame.proofs.laws.streams_split_in_one_way.Goals as goal

pub returns-clause-some : goal.returns-clause-some
returns-clause-some c = every_split

pub returns-clause-only : goal.returns-clause-only
returns-clause-only c = one_split

pub returns-clause-framer : goal.returns-clause-framer
returns-clause-framer c = taken_split

pub returns-clause-written : goal.returns-clause-written
returns-clause-written c = written_split
