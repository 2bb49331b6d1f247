use Rattle.std.proofs.Common.{◌≡◌, drop}
use Rattle.pdc_open_row.specs.Due.{all_taken}
use Rattle.pdc_open_row.proofs.streams.each_taken.Given as goal

abbrev pub invariant-loop-stream : goal.invariant-loop-stream
invariant-loop-stream l = all_taken (drop l.stream l.required) (drop l.stream l.taken) ≡ all_taken l.required l.taken
