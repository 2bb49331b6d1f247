use Rattle.std.proofs.Common.{◌≡◌, ◌∙◌, ℕ, false, length, None, Option, refl, Some, sym, true≢false}
use Rattle.std.specs.Prelude.{is_some}
use Rattle.pdc_merge.proofs.InForce.{same_in_force}
use Rattle.pdc_merge.proofs.Lives.{is_ready, is_whole, still_placed}
use Rattle.pdc_merge.proofs.merger.MergerCore.tick.Goals as goal

none_is : (change : Option ℕ) → is_some change ≡ false → change ≡ None
none_is None e = refl
none_is (Some change) e = absurd (true≢false e)

pub layouts_in_force-self-inside-requires : goal.layouts_in_force-self-inside-requires
layouts_in_force-self-inside-requires g c =
    still_placed (length c.self.inside.settings.sources.items) c.self.inside.alignment.state c.tick-ticked.new.self.state c.self.inside.layouts c.self.inside.in_force c.tick-ticked.ensures.sizes c.self.invariant

pub invariant_of-self : goal.invariant_of-self
invariant_of-self g c =
    is_whole (length c.self.inside.settings.sources.items) c.self.inside.alignment.state c.tick-ticked.new.self.state c.self.inside.layouts c.self.inside.layouts
    c.self.inside.in_force c.layouts_in_force-self-inside.result c.tick-ticked.ensures.sizes
    (is_ready (length c.self.inside.settings.sources.items) c.self.inside.alignment.state c.self.inside.layouts c.self.inside.in_force c.self.invariant).in_place
    c.layouts_in_force-self-inside.ensures c.self.invariant

pub invariant_of-self-else-is_some : goal.invariant_of-self-else-is_some
invariant_of-self-else-is_some g c =
    is_whole (length c.self.inside.settings.sources.items) c.self.inside.alignment.state c.tick-ticked.new.self.state c.self.inside.layouts c.self.inside.layouts
    c.self.inside.in_force c.self.inside.in_force c.tick-ticked.ensures.sizes
    (is_ready (length c.self.inside.settings.sources.items) c.self.inside.alignment.state c.self.inside.layouts c.self.inside.in_force c.self.invariant).in_place
    (c.self.invariant.known
    ∙ sym (same_in_force c.self.inside.alignment.state c.tick-ticked.new.self.state c.self.inside.layouts (c.tick-ticked.ensures.in_force (none_is c.tick-ticked.result.change (sym c.is_some.ensures ∙ c.if-is_some.false)))))
    c.self.invariant
