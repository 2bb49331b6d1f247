use Rattle.std.proofs.Common.{subst}
use Rattle.pdc_world.proofs.Names.{HoldsSome}
use Rattle.pdc_world.proofs.world.World.holds_some_history.Goals as goal

pub returns : goal.returns
returns g c = subst HoldsSome c.self.view_is c.self.invariant
