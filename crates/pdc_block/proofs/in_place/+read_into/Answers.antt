use Rattle.std.proofs.Common.{arith}
use Rattle.pdc_block.proofs.Bodies.{words_in_two}
use Rattle.pdc_block.proofs.in_place.+read_into.Goals as goal

pub returns : goal.returns
returns t c = rw (c.read_thirty_two.ensures, c.read_into.ensures)
    (words_in_two 32 c.args.bytes.now c.split_at.result.0.now c.split_at.result.1.now (omega (arith, c.if-words.false, c.requires))
    c.split_at.ensures.front c.split_at.ensures.back)
