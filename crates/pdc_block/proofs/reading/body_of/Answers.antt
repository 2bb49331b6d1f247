use Rattle.std.proofs.Common.{◌∙◌, List, arith, subst, sym, ℕ}
use Rattle.pdc_cfg.specs.pdc_frame.Bytes.{AreBytes}
use Rattle.pdc_block.specs.Block.{AreWords, IsBody}
use Rattle.pdc_block.proofs.Bodies.{body_of_bytes, words_fit}
use Rattle.pdc_block.proofs.reading.body_of.Goals as goal

pub invariant_of-result : goal.invariant_of-result
invariant_of-result c = record {
  counted = c.new_words-words.ensures.count ∙ c.word_count.ensures.value;
  words_fit = subst AreWords (sym c.new_words-words.ensures.words) (words_fit c.args.bytes.now (λ i. omega (arith, c.type_inv.bytes i)));
}

pub returns-clause-found : goal.returns-clause-found
returns-clause-found c =
    let fits : AreBytes c.args.bytes.now = λ i. omega (arith, c.type_inv.bytes i) in
    subst (λ (words : List ℕ). IsBody c.args.shape c.args.bytes.now words) (sym c.new_words-words.ensures.words)
    (body_of_bytes c.words_are_their_bytes.ensures c.args.shape c.args.bytes.now fits c.requires)
