use Rattle.std.proofs.Common.{◌≡◌, ◌++◌, replicate}
use Rattle.pdc_block.proofs.absent_block.push_times.Given as goal

abbrev pub invariant-loop : goal.invariant-loop
invariant-loop l = l.words.items ≡ l.initial.words.items ++ replicate l.counter l.word
