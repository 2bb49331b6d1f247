use Rattle.pdc_words.proofs.Cells.{two_takes}
use Rattle.pdc_frame.proofs.framer.take_frame.Goals as goal

pub returns-clause-bytes : goal.returns-clause-bytes
returns-clause-bytes g c =
    two_takes c.args.held.now.items c.take_header-taken.new.held.items c.take_rest-more.new.held.items c.args.piece.now c.take_header-taken.result.0 c.take_rest-more.result.0
    c.take_header-taken.ensures.bytes c.take_rest-more.ensures.bytes
