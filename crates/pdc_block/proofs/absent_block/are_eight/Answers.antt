use Rattle.std.proofs.Common.{ℕ, List, ap, arith, sym, ◌∙◌}
use Rattle.std.proofs.lemmas.List.{take_all}
use Rattle.pdc_block.proofs.AbsentWords.{are_first, first_are, taken_are}
use Rattle.pdc_block.proofs.absent_block.are_eight.Goals as goal

pub returns : goal.returns
returns c = (
  λ t. sym (take_all 8 c.args.words.now (omega (arith, c.requires))) ∙ taken_are 8 c.args.words.now c.args.word (omega (arith, c.requires)) t,
  λ e. ap (λ (words : List ℕ). first_are 8 words c.args.word) e ∙ are_first 8 8 c.args.word (omega arith),
)
