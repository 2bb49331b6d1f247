use Rattle.std.proofs.Common.{ap, ◌∙◌}
use Rattle.std.specs.Int.{w64, from_be_bytes}
use Rattle.pdc_words.proofs.LaneSteps.{number_turned}
use Rattle.pdc_words.proofs.lanes.number_of.Goals as goal

pub returns : goal.returns
returns c = c.from_be_bytes.ensures ∙ ap (from_be_bytes w64) c.to_le_bytes.ensures ∙ number_turned c.args.lane
