use Rattle.pdc_block.proofs.CutWords.{words_before, words_behind}
use Rattle.pdc_block.proofs.laws.words_are_cut.Goals as goal

pub returns : goal.returns
returns c = record { before = words_before; behind = words_behind }
