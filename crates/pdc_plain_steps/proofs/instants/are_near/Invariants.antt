use Rattle.std.proofs.Common.{◌≡◌, drop}
use Rattle.std.specs.List.{list_all}
use Rattle.pdc_row.specs.Rising.{is_near}
use Rattle.pdc_plain_steps.proofs.instants.are_near.Given as goal

abbrev pub invariant-loop-other : goal.invariant-loop-other
invariant-loop-other l = list_all (is_near l.window l.instant) l.instants ≡ list_all (is_near l.window l.instant) (drop l.other-index l.instants)
