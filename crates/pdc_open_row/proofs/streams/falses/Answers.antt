use Rattle.std.proofs.Common.{◌∙◌, false, ap, take}
use Rattle.std.proofs.lemmas.List.{take-replicate}
use Rattle.pdc_open_row.proofs.streams.falses.Goals as goal

pub returns : goal.returns
returns c = c.truncate.ensures.items ∙ ap (take c.args.count) c.from_array_in-falses.ensures.items ∙ take-replicate c.args.count 16 false c.requires
