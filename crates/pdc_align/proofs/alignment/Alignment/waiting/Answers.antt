use Rattle.std.proofs.Common.{◌∙◌}
use Rattle.pdc_align.proofs.Follows.{waiting_same}
use Rattle.pdc_align.proofs.alignment.Alignment.waiting.Goals as goal

pub returns : goal.returns
returns g c life E stands = c.counts.ensures ∙ waiting_same life E c.args.self.now.state stands
