use Rattle.pdc_words.proofs.LinearLemmas.{checks_differ, front_differs, word_differs, moved_remainder, moved_sum, moved_twice}
use Rattle.pdc_words.proofs.FrontLemmas.{fronts_differ}
use Rattle.pdc_words.proofs.laws.check_words_are_linear.Goals as goal

pub returns : goal.returns
returns c = record {
  difference = checks_differ;
  front = front_differs;
  fronts = fronts_differ;
  word = word_differs;
  moved = moved_remainder;
  sum = moved_sum;
  twice = moved_twice;
}
