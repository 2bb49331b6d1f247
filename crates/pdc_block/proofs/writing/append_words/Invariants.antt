use Rattle.std.proofs.Common.{◌≡◌, ◌≤◌, ◌-◌, ◌*◌, ◌+◌, ◌++◌, length, take}
use Rattle.pdc_block.specs.Block.{bytes_of_words}
use Rattle.pdc_block.proofs.writing.append_words.Given as goal

abbrev pub invariant-loop-at : goal.invariant-loop-at
invariant-loop-at g l = record {
  at_most : l.at ≤ length l.words;
  content : g.B.Buffer.content l.out ≡ g.B.Buffer.content l.fn.out ++ bytes_of_words (take l.at l.words);
  len : length (g.B.Buffer.content l.out) ≡ length (g.B.Buffer.content l.fn.out) + 2 * l.at;
  in_place : g.B.Buffer.capacity l.out ≡ g.B.Buffer.capacity l.fn.out;
}

abbrev pub decreases-loop-at : goal.decreases-loop-at
decreases-loop-at g l = length l.words - l.at
