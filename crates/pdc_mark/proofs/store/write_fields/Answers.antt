use Rattle.std.proofs.Common.{◌≡◌, ℕ, ◌+◌, ◌<◌, ◌∙◌, List, length, ap, arith}
use Rattle.std.proofs.lemmas.Result.{on_ok_weaker}
use Rattle.pdc_disk.specs.Disk.{written}
use Rattle.pdc_mark.specs.declared.layout.TheConstants.{FIELDS_AT, FIELDS_LEN}
use Rattle.pdc_mark.specs.Slots.{offset_of, other_of, slot_of}
use Rattle.pdc_mark.proofs.Fields.{slot_of-fields_of}
use Rattle.pdc_mark.proofs.Marks.{inside}
use Rattle.pdc_mark.proofs.Runs.{leaves_torn, leaves_synced, torn_synced, made_synced}
use Rattle.pdc_mark.proofs.Steps.{fields_torn, fields_done, fields_here, fields_there}
use Rattle.pdc_mark.proofs.store.write_fields.Goals as goal

pub returns-in_err-write_at-clause-images : goal.returns-in_err-write_at-clause-images
returns-in_err-write_at-clause-images g c image left =
    let old = g.D.Disk.seen c.args.disk.now in
    let was = g.D.Disk.is_settled c.args.disk.now in
    let is : c.offset.result + FIELDS_AT ≡ offset_of (other_of c.args.held) + FIELDS_AT = ap (λ n. n + FIELDS_AT) (c.offset.ensures ∙ ap offset_of c.other.ensures) in
    let fits : offset_of (other_of c.args.held) + FIELDS_AT + FIELDS_LEN < length old = omega (arith, c.requires.size, inside (other_of c.args.held)) in
    fields_torn old was c.args.held c.requires image
    (leaves_torn old _ was _ (c.offset.result + FIELDS_AT) (offset_of (other_of c.args.held) + FIELDS_AT) FIELDS_LEN is fits c.requires.settled (rw c.fields.ensures.len at c.write_at.ensures.torn) (rw c.fields.ensures.len at c.write_at.ensures.settled) image left)

pub returns-clause-images : goal.returns-clause-images
returns-clause-images g c image left =
    let old = g.D.Disk.seen c.args.disk.now in
    let was = g.D.Disk.is_settled c.args.disk.now in
    let is : c.offset.result + FIELDS_AT ≡ offset_of (other_of c.args.held) + FIELDS_AT = ap (λ n. n + FIELDS_AT) (c.offset.ensures ∙ ap offset_of c.other.ensures) in
    let fits : offset_of (other_of c.args.held) + FIELDS_AT + FIELDS_LEN < length old = omega (arith, c.requires.size, inside (other_of c.args.held)) in
    fields_torn old was c.args.held c.requires image
    (leaves_synced old _ was _ (c.offset.result + FIELDS_AT) (offset_of (other_of c.args.held) + FIELDS_AT) FIELDS_LEN is fits c.requires.settled (rw c.fields.ensures.len at c.write_at.ensures.torn) (rw c.fields.ensures.len at c.write_at.ensures.settled) _ _ c.sync.ensures.seen c.sync.ensures.settled image left)

pub returns-clause-same : goal.returns-clause-same
returns-clause-same g c =
    let old = g.D.Disk.seen c.args.disk.now in
    let was = g.D.Disk.is_settled c.args.disk.now in
    let is : c.offset.result + FIELDS_AT ≡ offset_of (other_of c.args.held) + FIELDS_AT = ap (λ n. n + FIELDS_AT) (c.offset.ensures ∙ ap offset_of c.other.ensures) in
    let fits : offset_of (other_of c.args.held) + FIELDS_AT + FIELDS_LEN < length old = omega (arith, c.requires.size, inside (other_of c.args.held)) in
    let torn = torn_synced old _ was _ (c.offset.result + FIELDS_AT) (offset_of (other_of c.args.held) + FIELDS_AT) FIELDS_LEN is fits c.requires.settled (rw c.fields.ensures.len at c.write_at.ensures.torn) (rw c.fields.ensures.len at c.write_at.ensures.settled) _ c.sync.ensures.seen in
    on_ok_weaker c.sync.result (λ all. fields_here old was c.args.held c.requires (g.D.Disk.seen c.sync.new.self) torn) c.sync.ensures.durable

pub returns-clause-next : goal.returns-clause-next
returns-clause-next g c =
    let old = g.D.Disk.seen c.args.disk.now in
    let was = g.D.Disk.is_settled c.args.disk.now in
    let is : c.offset.result + FIELDS_AT ≡ offset_of (other_of c.args.held) + FIELDS_AT = ap (λ n. n + FIELDS_AT) (c.offset.ensures ∙ ap offset_of c.other.ensures) in
    let fits : offset_of (other_of c.args.held) + FIELDS_AT + FIELDS_LEN < length old = omega (arith, c.requires.size, inside (other_of c.args.held)) in
    let made = made_synced old _ was _ (c.offset.result + FIELDS_AT) (offset_of (other_of c.args.held) + FIELDS_AT) FIELDS_LEN is fits c.requires.settled (rw c.fields.ensures.len at c.write_at.ensures.torn) (rw c.fields.ensures.len at c.write_at.ensures.settled) _ _ c.sync.ensures.seen c.in_ok-write_at.ensures.written in
    let says : slot_of c.fields.result ≡ c.args.next = ap slot_of c.fields.ensures.value ∙ slot_of-fields_of c.args.next c.fields.ensures.fits in
    on_ok_weaker c.sync.result (λ all. fields_there old was c.args.held c.requires (g.D.Disk.seen c.sync.new.self) c.fields.result c.args.next c.fields.ensures.len says made) c.sync.ensures.durable

pub returns-clause-ok : goal.returns-clause-ok
returns-clause-ok g c =
    let old = g.D.Disk.seen c.args.disk.now in
    let was = g.D.Disk.is_settled c.args.disk.now in
    let is : c.offset.result + FIELDS_AT ≡ offset_of (other_of c.args.held) + FIELDS_AT = ap (λ n. n + FIELDS_AT) (c.offset.ensures ∙ ap offset_of c.other.ensures) in
    let fits : offset_of (other_of c.args.held) + FIELDS_AT + FIELDS_LEN < length old = omega (arith, c.requires.size, inside (other_of c.args.held)) in
    let torn = torn_synced old _ was _ (c.offset.result + FIELDS_AT) (offset_of (other_of c.args.held) + FIELDS_AT) FIELDS_LEN is fits c.requires.settled (rw c.fields.ensures.len at c.write_at.ensures.torn) (rw c.fields.ensures.len at c.write_at.ensures.settled) _ c.sync.ensures.seen in
    on_ok_weaker c.sync.result (λ all. fields_done old was c.args.held c.requires (g.D.Disk.seen c.sync.new.self) _ torn all) c.sync.ensures.durable

pub returns-clause-bytes : goal.returns-clause-bytes
returns-clause-bytes g c =
    let old = g.D.Disk.seen c.args.disk.now in
    let was = g.D.Disk.is_settled c.args.disk.now in
    let at = offset_of (other_of c.args.held) + FIELDS_AT in
    let is : c.offset.result + FIELDS_AT ≡ at = ap (λ n. n + FIELDS_AT) (c.offset.ensures ∙ ap offset_of c.other.ensures) in
    let fits : at + FIELDS_LEN < length old = omega (arith, c.requires.size, inside (other_of c.args.held)) in
    let made = made_synced old _ was _ (c.offset.result + FIELDS_AT) at FIELDS_LEN is fits c.requires.settled (rw c.fields.ensures.len at c.write_at.ensures.torn) (rw c.fields.ensures.len at c.write_at.ensures.settled) _ _ c.sync.ensures.seen c.in_ok-write_at.ensures.written in
    on_ok_weaker c.sync.result (λ all. made ∙ ap (λ (bytes : List ℕ). written old at bytes) c.fields.ensures.value) c.sync.ensures.durable
