use Rattle.std.proofs.Common.{◌∙◌}
use Rattle.pdc_align.proofs.Follows.{layout_same}
use Rattle.pdc_align.proofs.alignment.Alignment.row_layout.Goals as goal

pub returns : goal.returns
returns g c life E stands = c.layout.ensures ∙ layout_same life E c.args.self.now.state stands
