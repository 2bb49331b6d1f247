use Rattle.std.proofs.Common.{subst}
use Rattle.pdc_mark.specs.declared.stored.Stored.{Stored}
use Rattle.pdc_mark.specs.DiskMark.{mark_on, with_stored}
use Rattle.pdc_mark.specs.Slots.{HasEither}
use Rattle.pdc_mark.proofs.disk_mark.DiskMarkMark.raise.Goals as goal

pub returns-clause-images : goal.returns-clause-images
returns-clause-images g c whole image left =
    let mark = c.args.self.now in
    subst (λ (next : Stored). HasEither (mark_on mark) (with_stored (mark_on mark) next) image) c.with_counts.ensures.value (c.put.ensures.images whole image left)
