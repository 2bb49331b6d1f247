use Rattle.std.proofs.Common.{◌≡◌}
use Rattle.pdc_mark.specs.DiskMark.{stored_of}
use Rattle.pdc_mark.specs.Stored.{with_floor}
use Rattle.bench_marks.proofs.raise.Given as goal

abbrev pub invariant-loop-floor : goal.invariant-loop-floor
invariant-loop-floor l = stored_of l.mark ≡ with_floor (stored_of l.initial.mark) l.floor
