use Rattle.std.proofs.Common.{◌≡◌, ◌+◌, ◌<◌, ◌∙◌, length, ap, arith}
use Rattle.std.proofs.lemmas.Result.{on_ok_weaker}
use Rattle.pdc_mark.specs.Slots.{offset_of, other_of}
use Rattle.pdc_mark.proofs.Marks.{inside}
use Rattle.pdc_mark.proofs.Runs.{leaves_torn, leaves_synced, torn_synced, made_synced}
use Rattle.pdc_mark.proofs.Steps.{closing_torn, closing_done, closing_here}
use Rattle.pdc_mark.proofs.store.close_gate.Goals as goal

pub returns-in_err-write_at-clause-images : goal.returns-in_err-write_at-clause-images
returns-in_err-write_at-clause-images g c image left =
    let old = g.D.Disk.seen c.args.disk.now in
    let was = g.D.Disk.is_settled c.args.disk.now in
    let is : c.offset-at.result ≡ offset_of (other_of c.args.held) = c.offset-at.ensures ∙ ap offset_of c.other.ensures in
    let fits : offset_of (other_of c.args.held) + 1 < length old = omega (arith, c.requires.size, inside (other_of c.args.held)) in
    closing_torn old was c.args.held c.requires image
    (leaves_torn old _ was _ c.offset-at.result (offset_of (other_of c.args.held)) 1 is fits c.requires.settled c.write_at.ensures.torn c.write_at.ensures.settled image left)

pub returns-clause-images : goal.returns-clause-images
returns-clause-images g c image left =
    let old = g.D.Disk.seen c.args.disk.now in
    let was = g.D.Disk.is_settled c.args.disk.now in
    let is : c.offset-at.result ≡ offset_of (other_of c.args.held) = c.offset-at.ensures ∙ ap offset_of c.other.ensures in
    let fits : offset_of (other_of c.args.held) + 1 < length old = omega (arith, c.requires.size, inside (other_of c.args.held)) in
    closing_torn old was c.args.held c.requires image
    (leaves_synced old _ was _ c.offset-at.result (offset_of (other_of c.args.held)) 1 is fits c.requires.settled c.write_at.ensures.torn c.write_at.ensures.settled _ _ c.sync.ensures.seen c.sync.ensures.settled image left)

pub returns-clause-same : goal.returns-clause-same
returns-clause-same g c =
    let old = g.D.Disk.seen c.args.disk.now in
    let was = g.D.Disk.is_settled c.args.disk.now in
    let is : c.offset-at.result ≡ offset_of (other_of c.args.held) = c.offset-at.ensures ∙ ap offset_of c.other.ensures in
    let fits : offset_of (other_of c.args.held) + 1 < length old = omega (arith, c.requires.size, inside (other_of c.args.held)) in
    let torn = torn_synced old _ was _ c.offset-at.result (offset_of (other_of c.args.held)) 1 is fits c.requires.settled c.write_at.ensures.torn c.write_at.ensures.settled _ c.sync.ensures.seen in
    on_ok_weaker c.sync.result (λ all. closing_here old was c.args.held c.requires (g.D.Disk.seen c.sync.new.self) torn) c.sync.ensures.durable

pub returns-clause-ok : goal.returns-clause-ok
returns-clause-ok g c =
    let old = g.D.Disk.seen c.args.disk.now in
    let was = g.D.Disk.is_settled c.args.disk.now in
    let is : c.offset-at.result ≡ offset_of (other_of c.args.held) = c.offset-at.ensures ∙ ap offset_of c.other.ensures in
    let fits : offset_of (other_of c.args.held) + 1 < length old = omega (arith, c.requires.size, inside (other_of c.args.held)) in
    let torn = torn_synced old _ was _ c.offset-at.result (offset_of (other_of c.args.held)) 1 is fits c.requires.settled c.write_at.ensures.torn c.write_at.ensures.settled _ c.sync.ensures.seen in
    let made = made_synced old _ was _ c.offset-at.result (offset_of (other_of c.args.held)) 1 is fits c.requires.settled c.write_at.ensures.torn c.write_at.ensures.settled _ _ c.sync.ensures.seen c.in_ok-write_at.ensures.written in
    on_ok_weaker c.sync.result (λ all. closing_done old was c.args.held c.requires (g.D.Disk.seen c.sync.new.self) _ torn all made) c.sync.ensures.durable
