use Rattle.std.proofs.Common.{arith}
use Rattle.pdc_block.proofs.Bodies.{words_in_two}
use Rattle.pdc_block.proofs.in_place.read_behind.Goals as goal

pub returns : goal.returns
returns c = rw (c.read_sixteen.ensures, c.read_some-2.ensures)
    (words_in_two 16 c.args.bytes.now c.split_at.result.0.now c.split_at.result.1.now (omega (arith, c.if-words.false, c.requires.size))
    c.split_at.ensures.front c.split_at.ensures.back)
