use Rattle.pdc_words.proofs.WordSteps.{narrow_congruent}
use Rattle.pdc_words.proofs.crc.narrowed.Goals as goal

pub returns : goal.returns
returns c = narrow_congruent _ _ c.moved_up.ensures
