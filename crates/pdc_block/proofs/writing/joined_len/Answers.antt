use Rattle.std.proofs.Common.{arith, ◌≡◌, ◌*◌, length, ap, sym, ◌∙◌}
use Rattle.std.proofs.lemmas.Grind.{common_steps}
use Rattle.std.specs.Prelude.{sum_by}
use Rattle.std.proofs.lemmas.List.{take_all}
use Rattle.pdc_block.specs.Block.{body_len_of, shape_of}
use Rattle.pdc_block.proofs.Cuts.{length-blocks}
use Rattle.pdc_block.proofs.writing.joined_len.Goals as goal

pub returns-clause-bytes : goal.returns-clause-bytes
returns-clause-bytes c =
    let blocks = c.args.blocks.now in
    c.loop-block.invariant.sum ∙ ap (sum_by (λ block. body_len_of (shape_of block))) (take_all c.loop-block.block-index blocks c.loop-block-test.false) ∙ sym (length-blocks blocks)

pub returns-then-blocks-eq1-clause-bytes : goal.returns-then-blocks-eq1-clause-bytes
returns-then-blocks-eq1-clause-bytes c =
    let blocks = c.args.blocks.now in
    let value : 2 * length c.words.result.now ≡ sum_by (λ block. body_len_of (shape_of block)) blocks = grind (arith, common_steps) in
    value ∙ sym (length-blocks blocks)
