use Rattle.pdc_words.proofs.Polynomials.{IsCheckWord-check_word_of, one_remainder}
use Rattle.pdc_words.proofs.laws.check_word_is_the_remainder.Goals as goal

pub returns-clause-found : goal.returns-clause-found
returns-clause-found c = λ bytes fits. IsCheckWord-check_word_of bytes fits

pub returns-clause-only : goal.returns-clause-only
returns-clause-only c = λ bytes check fits h. one_remainder _ _ _ h (IsCheckWord-check_word_of bytes fits)
