use Rattle.std.proofs.Common.{◌∙◌, ap, set}
use Rattle.pdc_table.specs.AgesView.{AgesView}
use Rattle.pdc_table.proofs.AgesKept.{begun}
use Rattle.pdc_table.proofs.ages.Ages.begin.Goals as goal

pub returns-clause-items : goal.returns-clause-items
returns-clause-items c = begun c.self.inside.ticks c.args.place c.self.inside.since.items ∙ ap (λ (ages : AgesView). set ages.items c.args.place 0) c.self.view_is
