use Rattle.pdc_words.proofs.Cells.{word_at-append, long_at-append, word_at-behind, long_at-behind, word_at-take, long_at-take, word_at-drop, long_at-drop, AreBytes-take, AreBytes-drop, AreBytes-append, same_parts}
use Rattle.pdc_words.proofs.laws.parts_keep_their_words.Goals as goal

pub returns : goal.returns
returns c = record {
  word_in_front = word_at-append;
  long_in_front = long_at-append;
  word_behind = word_at-behind;
  long_behind = long_at-behind;
  word_in_take = word_at-take;
  long_in_take = long_at-take;
  word_in_drop = word_at-drop;
  long_in_drop = long_at-drop;
  bytes_in_take = AreBytes-take;
  bytes_in_drop = AreBytes-drop;
  bytes_joined = AreBytes-append;
  apart = same_parts;
}
