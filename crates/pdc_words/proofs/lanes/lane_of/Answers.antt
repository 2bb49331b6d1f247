use Rattle.std.proofs.Common.{ap, ◌∙◌}
use Rattle.std.specs.Int.{w64, from_le_bytes}
use Rattle.pdc_words.proofs.LaneSteps.{turned_from}
use Rattle.pdc_words.proofs.lanes.lane_of.Goals as goal

pub returns : goal.returns
returns c = turned_from _ c.args.number c.ranges.number.fits (c.from_le_bytes.ensures ∙ ap (from_le_bytes w64) c.to_be_bytes.ensures)
