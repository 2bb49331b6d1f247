use Rattle.std.proofs.Common.{inl, subst}
use Rattle.pdc_mark.specs.declared.stored.Stored.{Stored}
use Rattle.pdc_mark.specs.DiskMark.{mark_on, with_stored}
use Rattle.pdc_mark.specs.Slots.{HasEither}
use Rattle.pdc_mark.proofs.Marks.{held_image}
use Rattle.pdc_mark.proofs.disk_mark.DiskMarkMark.begin.Goals as goal

pub returns-then-self-2-clause-images : goal.returns-then-self-2-clause-images
returns-then-self-2-clause-images g c whole image left =
    let mark = c.args.self.now in
    inl (held_image _ _ mark.held mark.is_other_closed mark.slot (mark.stands whole) (mark.told whole) image left)

pub returns-in_err-put-clause-images : goal.returns-in_err-put-clause-images
returns-in_err-put-clause-images g c whole image left =
    let mark = c.args.self.now in
    subst (λ (next : Stored). HasEither (mark_on mark) (with_stored (mark_on mark) next) image) c.with_next_start.ensures.value (c.put.ensures.images whole image left)

pub returns-clause-images : goal.returns-clause-images
returns-clause-images g c whole image left =
    let mark = c.args.self.now in
    subst (λ (next : Stored). HasEither (mark_on mark) (with_stored (mark_on mark) next) image) c.with_next_start.ensures.value (c.put.ensures.images whole image left)
