use Rattle.std.proofs.Common.{false, ◌≡◌, ◌∙◌, rules}
use Rattle.pdc_mark.proofs.Images.{settled_image}
use Rattle.pdc_mark.proofs.Marks.{held_image}
use Rattle.pdc_mark.proofs.disk_mark.stopped.DiskMarkMemoryDiskStore.stopped.Goals as goal

pub opened-requires-clause-mark : goal.opened-requires-clause-mark
opened-requires-clause-mark c =
    let mark = c.args.self.now in
    let whole : mark.is_broken ≡ false = mark.whole (search rules) in
    held_image _ _ mark.held mark.is_other_closed mark.slot (mark.stands whole) (mark.told whole) _ c.stopped.ensures.image

pub returns-clause-file : goal.returns-clause-file
returns-clause-file c =
    let mark = c.args.self.now in
    let whole : mark.is_broken ≡ false = mark.whole (search rules) in
    c.opened.ensures.file ∙ settled_image _ _ _ (mark.stands whole).settled c.stopped.ensures.image
