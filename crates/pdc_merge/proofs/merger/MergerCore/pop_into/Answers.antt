use Rattle.std.proofs.Common.{◌∙◌, length, sym}
use Rattle.pdc_merge.proofs.InForce.{same_in_force}
use Rattle.pdc_merge.proofs.Lives.{is_ready, is_whole}
use Rattle.pdc_merge.proofs.merger.MergerCore.pop_into.Goals as goal

pub invariant_of-self : goal.invariant_of-self
invariant_of-self g c =
    is_whole (length c.self.inside.settings.sources.items) c.self.inside.alignment.state c.pop_into.new.self.state c.self.inside.layouts c.self.inside.layouts
    c.self.inside.in_force c.self.inside.in_force c.pop_into.ensures.sizes
    (is_ready (length c.self.inside.settings.sources.items) c.self.inside.alignment.state c.self.inside.layouts c.self.inside.in_force c.self.invariant).in_place
    (c.self.invariant.known ∙ sym (same_in_force c.self.inside.alignment.state c.pop_into.new.self.state c.self.inside.layouts c.pop_into.ensures.in_force))
    c.self.invariant
