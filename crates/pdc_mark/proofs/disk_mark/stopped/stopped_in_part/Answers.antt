use Rattle.std.proofs.Common.{◌≡◌, ◌+◌, ◌<◌, ◌≤◌, ℕ, List, Some, true, length, replicate, ap, subst, sym, ◌∙◌, arith}
use Rattle.pdc_disk.specs.Disk.{written}
use Rattle.pdc_disk.specs.MemoryDisk.{is_settled_at, seen_of, IsWritten}
use Rattle.pdc_mark.specs.declared.disk_mark.stopped.TheConstants.{TORN}
use Rattle.pdc_mark.specs.declared.layout.TheConstants.{FIELDS_AT, FIELDS_LEN}
use Rattle.pdc_mark.specs.declared.slot.Place.{Place}
use Rattle.pdc_mark.specs.declared.slot.Slot.{Slot}
use Rattle.pdc_mark.specs.Slots.{offset_of, other_of, slot_in, HasMark, IsHeld}
use Rattle.pdc_mark.specs.Stores.{with_closed, with_fields}
use Rattle.pdc_mark.proofs.Marks.{inside}
use Rattle.pdc_mark.proofs.Runs.{leaves_torn}
use Rattle.pdc_mark.proofs.Steps.{fields_torn}
use Rattle.pdc_mark.proofs.Writes.{filled_image}
use Rattle.pdc_mark.proofs.disk_mark.stopped.stopped_in_part.Goals as goal

pub returns-clause-file : goal.returns-clause-file
returns-clause-file c =
    let old = seen_of c.args.disk.now in
    let ready = c.make_ready.new.disk in
    let new = c.write_at.new.self in
    let place = other_of c.args.held in
    let at = offset_of place + FIELDS_AT in
    let held : IsHeld (seen_of ready) (is_settled_at ready) c.args.held true = rw c.unwrap.ensures at c.make_ready.ensures.ok in
    let closes : seen_of ready ≡ with_closed old place = rw c.unwrap.ensures at c.make_ready.ensures.bytes in
    let is : c.offset.result + FIELDS_AT ≡ at = ap (λ n. n + FIELDS_AT) (c.offset.ensures ∙ ap offset_of c.other.ensures) in
    let told : IsWritten (c.offset.result + FIELDS_AT) c.fields.result ready new = rw c.unwrap-2.ensures at c.write_at.ensures.ok in
    let made : IsWritten at c.fields.result ready new = subst (λ n. IsWritten n c.fields.result ready new) is told in
    let fits : at + length c.fields.result ≤ length (seen_of ready) = omega (arith, c.fields.ensures.len, held.size, inside place) in
    let filled : seen_of c.stopped.result ≡ written (seen_of ready) at (replicate (length c.fields.result) TORN) =
    filled_image (seen_of ready) (seen_of new) (seen_of c.stopped.result) c.fields.result at TORN (is_settled_at new) fits made.seen made.range (λ i out. made.others i out ∙ held.settled i) c.stopped.ensures.landed.0 c.stopped.ensures.landed.1 in
    filled ∙ ap (λ n. written (seen_of ready) at (replicate n TORN)) c.fields.ensures.len ∙ ap (λ (bytes : List ℕ). with_fields bytes place (replicate FIELDS_LEN TORN)) closes
    ∙ ap (λ (p : Place). with_fields (with_closed old (other_of p)) (other_of p) (replicate FIELDS_LEN TORN)) (sym c.requires.holds)

pub returns-clause-mark : goal.returns-clause-mark
returns-clause-mark c =
    let ready = c.make_ready.new.disk in
    let old = seen_of ready in
    let was = is_settled_at ready in
    let at = offset_of (other_of c.args.held) + FIELDS_AT in
    let held : IsHeld old was c.args.held true = rw c.unwrap.ensures at c.make_ready.ensures.ok in
    let same : slot_in old c.args.held ≡ slot_in (seen_of c.args.disk.now) c.args.held = rw c.unwrap.ensures at c.make_ready.ensures.same in
    let is : c.offset.result + FIELDS_AT ≡ at = ap (λ n. n + FIELDS_AT) (c.offset.ensures ∙ ap offset_of c.other.ensures) in
    let fits : at + FIELDS_LEN < length old = omega (arith, held.size, inside (other_of c.args.held)) in
    let torn = leaves_torn old _ was _ (c.offset.result + FIELDS_AT) at FIELDS_LEN is fits held.settled (rw c.fields.ensures.len at c.write_at.ensures.torn) (rw c.fields.ensures.len at c.write_at.ensures.settled) _ c.stopped.ensures.image in
    subst (λ (slot : Slot). HasMark (seen_of c.stopped.result) (Some slot)) same (fields_torn old was c.args.held held (seen_of c.stopped.result) torn)
