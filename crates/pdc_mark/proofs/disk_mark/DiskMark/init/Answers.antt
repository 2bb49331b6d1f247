use Rattle.std.proofs.Common.{◌≡◌, true, refl, sym, subst, ◌∙◌, ap, List, ℕ, ◌++◌}
use Rattle.pdc_mark.specs.declared.layout.TheConstants.{CLOSED, OPEN}
use Rattle.pdc_mark.specs.declared.slot.Place.TheVariants.{First}
use Rattle.pdc_mark.specs.declared.slot.Slot.{Slot}
use Rattle.pdc_mark.specs.declared.stored.Stored.{Stored}
use Rattle.pdc_mark.specs.Counts.{count_bytes}
use Rattle.pdc_mark.specs.DiskMark.{first_file, first_mark}
use Rattle.pdc_mark.specs.Slots.{slot_at, slot_bytes, FitsWidths, HasJust, IsHeld}
use Rattle.pdc_mark.proofs.Fresh.{held_made, has_made, slot_made}
use Rattle.pdc_mark.proofs.Marks.{has_image}
use Rattle.pdc_mark.proofs.disk_mark.DiskMark.init.Goals as goal

abbrev mark_with : ℕ → ℕ → Stored → Slot
mark_with id rate stored = record { id = id; rate = rate; stored = stored }

pub returns-in-Ok-clause-durable : goal.returns-in-Ok-clause-durable
unfolding count_bytes
returns-in-Ok-clause-durable g c =
    let id = c.args.id in
    let rate = c.args.rate in
    let fits : FitsWidths (first_mark id rate) = subst (λ (stored : Stored). FitsWidths (mark_with id rate stored)) c.first.ensures c.bytes.ensures.fits in
    let seen : g.D.Disk.seen c.write_file.new.disk ≡ first_file id rate =
    c.in-Ok.ensures.bytes ∙ ap (λ (bytes : List ℕ). bytes ++ c.bytes-2.result) c.bytes.ensures.value ∙ ap (λ (bytes : List ℕ). slot_bytes OPEN (mark_with id rate c.first.result) ++ bytes) c.bytes-2.ensures.value
    ∙ ap (λ (stored : Stored). slot_bytes OPEN (mark_with id rate stored) ++ slot_bytes CLOSED (mark_with id rate stored)) c.first.ensures in
    let made : HasJust (first_mark id rate) (first_file id rate) = has_made id rate 0 0 fits (slot_bytes CLOSED (first_mark id rate)) refl refl in
    has_image _ _ (first_mark id rate) c.in-Ok.ensures.durable (subst (HasJust (first_mark id rate)) (sym seen) made)

pub invariant_of-result : goal.invariant_of-result
unfolding count_bytes
invariant_of-result g c =
    let id = c.args.id in
    let rate = c.args.rate in
    let fits : FitsWidths (first_mark id rate) = subst (λ (stored : Stored). FitsWidths (mark_with id rate stored)) c.first.ensures c.bytes.ensures.fits in
    let seen : g.D.Disk.seen c.write_file.new.disk ≡ first_file id rate =
    c.in-Ok.ensures.bytes ∙ ap (λ (bytes : List ℕ). bytes ++ c.bytes-2.result) c.bytes.ensures.value ∙ ap (λ (bytes : List ℕ). slot_bytes OPEN (mark_with id rate c.first.result) ++ bytes) c.bytes-2.ensures.value
    ∙ ap (λ (stored : Stored). slot_bytes OPEN (mark_with id rate stored) ++ slot_bytes CLOSED (mark_with id rate stored)) c.first.ensures in
    let held = held_made id rate 0 0 fits (slot_bytes CLOSED (first_mark id rate)) refl refl (g.D.Disk.is_settled c.write_file.new.disk) c.in-Ok.ensures.durable in
    let told = slot_made id rate 0 0 fits (slot_bytes CLOSED (first_mark id rate)) refl refl in
    record {
      stands = λ _. subst (λ (bytes : List ℕ). IsHeld bytes (g.D.Disk.is_settled c.write_file.new.disk) First true) (sym seen) held;
      told = λ _. ap (λ (bytes : List ℕ). slot_at bytes 0) seen ∙ told ∙ ap (λ (stored : Stored). mark_with id rate stored) (sym c.first.ensures);
      whole = λ _. refl;
    }
