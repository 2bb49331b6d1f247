use Rattle.std.proofs.Common.{ap, arith, length}
use Rattle.pdc_block.proofs.Bodies.{body_of_bytes}
use Rattle.pdc_block.proofs.Words.{length-bytes_of_words}
use Rattle.pdc_block.proofs.body.Body.new.Goals as goal

pub returns-then-bytes-word_count-clause-refused : goal.returns-then-bytes-word_count-clause-refused
returns-then-bytes-word_count-clause-refused c = λ words h. c.if-bytes-word_count.true (omega (arith, ap length h.spelled, length-bytes_of_words words, h.count, c.word_count.ensures.value))

pub returns-clause-found : goal.returns-clause-found
returns-clause-found c =
    body_of_bytes c.words_are_their_bytes.ensures c.args.shape c.args.bytes.now (λ k. omega (arith, c.type_inv.bytes k)) (omega (arith, c.if-bytes-word_count.false, c.word_count.ensures.value))
