use Rattle.std.proofs.Common.{◌+◌, ◌*◌, refl}
use Rattle.pdc_words.proofs.Cells.{word_cells, long_cells, word_read, long_read, word_again, long_again, word_bytes, long_bytes}
use Rattle.pdc_words.proofs.laws.words_are_their_bytes.Goals as goal

pub returns : goal.returns
returns c = record {
  word = word_read;
  long = long_read;
  word_again = word_again;
  long_again = long_again;
  word_of = λ high low high_fits low_fits. word_cells (256 * high + low) high low high_fits low_fits refl;
  long_of = λ a b c d ha hb hc hd. long_cells (65536 * (256 * a + b) + (256 * c + d)) a b c d ha hb hc hd refl;
  word_bytes = word_bytes;
  long_bytes = long_bytes;
}
