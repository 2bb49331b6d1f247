use Rattle.std.proofs.Common.{length, ap, sym, ◌∙◌, arith}
use Rattle.pdc_block.proofs.Words.{length-bytes_of_words, same_words}
use Rattle.pdc_block.proofs.reading.read_body.Goals as goal

pub returns-then-bytes-word_count-clause-only : goal.returns-then-bytes-word_count-clause-only
returns-then-bytes-word_count-clause-only c = λ words h. c.if-bytes-word_count.true (omega (arith, ap length h.spelled, length-bytes_of_words words, h.count, c.word_count.ensures.value))

pub returns-then-bytes-word_count-clause-refused : goal.returns-then-bytes-word_count-clause-refused
returns-then-bytes-word_count-clause-refused c = returns-then-bytes-word_count-clause-only c

pub returns-clause-only : goal.returns-clause-only
returns-clause-only c = λ words h.
    let found = c.body_of.ensures.found in
    same_words c.words_are_their_bytes.ensures _ words (found.count ∙ sym h.count) found.fits h.fits (sym found.spelled ∙ h.spelled)
