use Rattle.std.proofs.Common.{inl, Some, subst, ◌∙◌}
use Rattle.std.proofs.lemmas.Result.{on_ok_weaker}
use Rattle.pdc_mark.specs.declared.slot.Slot.{Slot}
use Rattle.pdc_mark.specs.Slots.{offset_of, other_of, slot_at, HasEither, HasMark}
use Rattle.pdc_mark.proofs.Writes.{whole_file}
use Rattle.pdc_mark.proofs.store.store.Goals as goal

pub returns-in_err-write_fields-clause-images : goal.returns-in_err-write_fields-clause-images
returns-in_err-write_fields-clause-images g c image left =
    inl (subst (λ (slot : Slot). HasMark image (Some slot)) c.in_ok-make_ready.ensures.same (c.write_fields.ensures.images image left))

pub returns-clause-images : goal.returns-clause-images
returns-clause-images g c image left =
    let old = slot_at (g.D.Disk.seen c.args.disk.now) (offset_of c.args.held) in
    subst (λ (slot : Slot). HasEither old slot image) c.in_ok-write_fields.ensures.next
    (subst (λ (slot : Slot). HasEither slot (slot_at (g.D.Disk.seen c.write_fields.new.disk) (offset_of (other_of c.args.held))) image)
    (c.in_ok-write_fields.ensures.same ∙ c.in_ok-make_ready.ensures.same) (c.open_gate.ensures.images image left))

pub returns-clause-bytes : goal.returns-clause-bytes
returns-clause-bytes g c =
    on_ok_weaker c.open_gate.result (λ opens. whole_file (g.D.Disk.seen c.args.disk.now) _ _ (g.D.Disk.seen c.open_gate.new.disk) c.args.held c.args.next c.requires.held.size c.requires.held.holds c.in_ok-make_ready.ensures.bytes c.in_ok-write_fields.ensures.bytes opens) c.open_gate.ensures.bytes
