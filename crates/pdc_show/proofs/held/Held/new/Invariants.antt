use Rattle.std.proofs.Common.{◌≤◌, length}
use Rattle.pdc_show.proofs.held.Held.new.Given as goal

abbrev pub invariant-loop-section : goal.invariant-loop-section
invariant-loop-section l = length l.sections.items ≤ l.section-index
