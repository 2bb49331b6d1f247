use Rattle.std.proofs.Common.{map, take}
use Rattle.pdc_life.specs.CoreKind.{OfMerger}
use Rattle.pdc_plain_steps.specs.Views.{life_view, step_view}
use Rattle.pdc_plain.specs.Views.{IsLifeFrom}
use Rattle.pdc_plain.proofs.living.live_merger.Given as goal

-- the life of the steps so far
abbrev pub invariant-loop-step : goal.invariant-loop-step
invariant-loop-step l = IsLifeFrom (OfMerger l.settings) l.opening (map step_view (take l.step-index l.steps)) (life_view l.entries.items)
