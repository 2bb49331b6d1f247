use Rattle.std.proofs.Common.{Bool, false, ◌≡◌, ◌∙◌, ap, subst, sym, rules}
use Rattle.pdc_disk.specs.MemoryDisk.{seen_of}
use Rattle.pdc_mark.specs.declared.slot.Slot.{Slot}
use Rattle.pdc_mark.specs.DiskMark.{disk_of, mark_on}
use Rattle.pdc_mark.specs.Slots.{HasJust}
use Rattle.pdc_mark.specs.Stores.{file_after, file_stopped}
use Rattle.pdc_mark.proofs.disk_mark.stopped.DiskMark+MemoryDisk.put_stopped.Goals as goal

pub opened-opened-requires-clause-mark : goal.opened-opened-requires-clause-mark
opened-opened-requires-clause-mark c =
    let mark = c.args.self.now in
    let whole : mark.is_broken ≡ false = mark.whole (search rules) in
    subst (λ (slot : Slot). HasJust slot (seen_of c.stopped_in_part-disk.result)) (mark.told whole) c.stopped_in_part-disk.ensures.mark

pub returns-then-landed-clause-file : goal.returns-then-landed-clause-file
returns-then-landed-clause-file c =
    let old = seen_of (disk_of c.args.self.now) in
    let file : seen_of (disk_of c.put.new.self) ≡ file_after old (mark_on c.put.new.self) = rw c.unwrap.ensures at c.put.ensures.file in
    c.stopped.ensures.file ∙ file ∙ ap (λ (mark : Slot). file_after old mark) (sym c.stopped.ensures.mark) ∙ ap (λ (landed : Bool). file_stopped landed old (mark_on c.stopped.new.self)) (sym c.if-landed.true)
