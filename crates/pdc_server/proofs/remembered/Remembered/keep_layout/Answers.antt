use Rattle.std.proofs.Common.{subst, sym}
use Rattle.pdc_server.specs.Stream.{IsLayout}
use Rattle.pdc_server.specs.declared.stamp.Stamp.{Stamp}
use Rattle.pdc_server.proofs.remembered.Remembered.keep_layout.Goals as goal

pub repeat_layout-requires : goal.repeat_layout-requires
repeat_layout-requires g c = subst (λ (s : Stamp). ∥ IsLayout g.N.Naming.stream s c.args.layout.items ∥₁) (sym (c.is_in_force.ensures.same c.if-is_in_force.true)) c.requires
