use Rattle.std.proofs.Common.{◌≡◌, ◌∙◌, ℕ, List, arith, get_or, length}
use Rattle.pdc_block.specs.Block.{words_in}
use Rattle.pdc_block.proofs.Bodies.{word_in, words_count}
use Rattle.pdc_block.proofs.Writes.{all_written}
use Rattle.pdc_block.proofs.in_place.read_last.Goals as goal

pub returns : goal.returns
returns c =
    let bytes : List ℕ = c.args.bytes.now in
    let three : length c.args.words.now ≡ 3 = grind (arith, c.requires.few, c.if-count-eq0.false, c.if-count-eq1.false, c.if-count-eq2.false) in
    let six : length c.args.bytes.now ≡ 6 = omega (arith, c.requires.size, three) in
    let a : c.read_word.result ≡ get_or (words_in bytes) 0 0 = c.read_word.ensures ∙ word_in bytes 0 3 six (omega arith) in
    let b : c.read_word-2.result ≡ get_or (words_in bytes) 1 0 = c.read_word-2.ensures ∙ word_in bytes 1 3 six (omega arith) in
    let d : c.read_word-3.result ≡ get_or (words_in bytes) 2 0 = c.read_word-3.ensures ∙ word_in bytes 2 3 six (omega arith) in
    rw (a, b, d) (all_written 3 c.args.words.now (words_in bytes) three (words_count bytes 3 six))
