use Rattle.std.proofs.Common.{false, subst}
use Rattle.pdc_mark.specs.declared.slot.Slot.{Slot}
use Rattle.pdc_mark.specs.DiskMark.{with_stored}
use Rattle.pdc_mark.specs.Slots.{other_of, HasEither}
use Rattle.pdc_mark.proofs.Marks.{held_image}
use Rattle.pdc_mark.proofs.disk_mark.DiskMark.put.Goals as goal

pub returns-in_default-clause-images : goal.returns-in_default-clause-images
returns-in_default-clause-images g c whole image left =
    subst (λ (slot : Slot). HasEither slot (with_stored c.args.self.now.slot c.args.next) image) (c.args.self.now.told whole) (c.store.ensures.images image left)

pub returns-clause-images : goal.returns-clause-images
returns-clause-images g c whole image left =
    subst (λ (slot : Slot). HasEither slot (with_stored c.args.self.now.slot c.args.next) image) (c.args.self.now.told whole) (c.store.ensures.images image left)

pub returns-clause-after : goal.returns-clause-after
returns-clause-after g c =
    held_image _ _ (other_of c.args.self.now.held) false (with_stored c.args.self.now.slot c.args.next) c.in-Ok.ensures.ok c.in-Ok.ensures.next
