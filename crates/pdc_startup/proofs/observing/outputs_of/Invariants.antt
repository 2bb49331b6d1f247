use Rattle.std.proofs.Common.{◌≡◌, vec_len}
use Rattle.pdc_startup.proofs.observing.outputs_of.Given as goal

abbrev pub invariant-loop-output : goal.invariant-loop-output
invariant-loop-output l = vec_len l.outputs ≡ l.output-index
