use Rattle.std.proofs.Common.{◌≡◌, ◌∙◌, ℕ, List, arith, get_or}
use Rattle.pdc_block.specs.Block.{words_in}
use Rattle.pdc_block.proofs.Bodies.{word_in, words_count}
use Rattle.pdc_block.proofs.Writes.{all_written}
use Rattle.pdc_block.proofs.in_place.read_eight.Goals as goal

pub returns : goal.returns
returns c =
    let bytes : List ℕ = c.args.bytes.now in
    let a : c.read_word-a.result ≡ get_or (words_in bytes) 0 0 = c.read_word-a.ensures ∙ word_in bytes 0 8 c.requires.bytes (omega arith) in
    let b : c.read_word-b.result ≡ get_or (words_in bytes) 1 0 = c.read_word-b.ensures ∙ word_in bytes 1 8 c.requires.bytes (omega arith) in
    let c1 : c.read_word-c.result ≡ get_or (words_in bytes) 2 0 = c.read_word-c.ensures ∙ word_in bytes 2 8 c.requires.bytes (omega arith) in
    let d : c.read_word-d.result ≡ get_or (words_in bytes) 3 0 = c.read_word-d.ensures ∙ word_in bytes 3 8 c.requires.bytes (omega arith) in
    let e : c.read_word-e.result ≡ get_or (words_in bytes) 4 0 = c.read_word-e.ensures ∙ word_in bytes 4 8 c.requires.bytes (omega arith) in
    let f : c.read_word-f.result ≡ get_or (words_in bytes) 5 0 = c.read_word-f.ensures ∙ word_in bytes 5 8 c.requires.bytes (omega arith) in
    let g : c.read_word-g.result ≡ get_or (words_in bytes) 6 0 = c.read_word-g.ensures ∙ word_in bytes 6 8 c.requires.bytes (omega arith) in
    let h : c.read_word-h.result ≡ get_or (words_in bytes) 7 0 = c.read_word-h.ensures ∙ word_in bytes 7 8 c.requires.bytes (omega arith) in
    rw (a, b, c1, d, e, f, g, h) (all_written 8 c.args.words.now (words_in bytes) c.requires.words (words_count bytes 8 c.requires.bytes))
