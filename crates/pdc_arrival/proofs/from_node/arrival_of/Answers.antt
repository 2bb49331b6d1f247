use Rattle.std.proofs.Common.{subst}
use Rattle.pdc_arrival.specs.Heard.{HearsFrom}
use Rattle.pdc_life.specs.declared.reading.Reading.{Reading}
use Rattle.pdc_life.specs.declared.reading.Reading.TheVariants.{Configuration}
use Rattle.pdc_life.specs.pdc_frame.declared.frame.Frame.{Frame}
use Rattle.pdc_arrival.proofs.from_node.arrival_of.Goals as goal

pub returns-in-Configuration : goal.returns-in-Configuration
returns-in-Configuration c bytes h =
    let frame : HearsFrom c.args.settings.now c.args.node.now bytes (Configuration c.in-Configuration.frame) = subst (λ (x : Reading Frame). HearsFrom c.args.settings.now c.args.node.now bytes x) c.in-Configuration.is h in
    c.read_configuration.ensures bytes frame.0 frame.1
