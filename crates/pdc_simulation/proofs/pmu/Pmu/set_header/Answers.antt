use Rattle.std.proofs.Common.{◌++◌, ◌∙◌, ap}
use Rattle.pdc_frame.specs.Frame.{spelling_of}
use Rattle.pdc_frame.specs.Command.{header_fields}
use Rattle.pdc_simulation.specs.Pmu.{PmuView}
use Rattle.pdc_simulation.proofs.pmu.Pmu.set_header.Goals as goal

pub returns-in-Ok-clause-ok : goal.returns-in-Ok-clause-ok
returns-in-Ok-clause-ok g c =
    c.in-Ok.ensures.ok ∙ ap (λ (p : PmuView). g.B.Buffer.content c.args.out.now ++ spelling_of (header_fields p.id c.args.soc c.args.text.now)) c.self.view_is
