use Rattle.std.proofs.Common.{◌≡◌, ◌∙◌, ℕ, List, arith, get_or}
use Rattle.pdc_block.specs.Block.{words_in}
use Rattle.pdc_block.proofs.Bodies.{word_in, words_count}
use Rattle.pdc_block.proofs.Writes.{all_written}
use Rattle.pdc_block.proofs.in_place.read_four.Goals as goal

pub returns : goal.returns
returns c =
    let bytes : List ℕ = c.args.bytes.now in
    let a : c.read_word-a.result ≡ get_or (words_in bytes) 0 0 = c.read_word-a.ensures ∙ word_in bytes 0 4 c.requires.bytes (omega arith) in
    let b : c.read_word-b.result ≡ get_or (words_in bytes) 1 0 = c.read_word-b.ensures ∙ word_in bytes 1 4 c.requires.bytes (omega arith) in
    let c1 : c.read_word-c.result ≡ get_or (words_in bytes) 2 0 = c.read_word-c.ensures ∙ word_in bytes 2 4 c.requires.bytes (omega arith) in
    let d : c.read_word-d.result ≡ get_or (words_in bytes) 3 0 = c.read_word-d.ensures ∙ word_in bytes 3 4 c.requires.bytes (omega arith) in
    rw (a, b, c1, d) (all_written 4 c.args.words.now (words_in bytes) c.requires.words (words_count bytes 4 c.requires.bytes))
