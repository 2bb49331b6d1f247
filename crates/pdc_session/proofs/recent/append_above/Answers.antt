use Rattle.std.proofs.Common.{rules, arith, ◌+◌, ◌<◌, ◌≤◌, List, ℕ, length, sym, subst}
use Rattle.pdc_session.proofs.Kept.{room_for_one}
use Rattle.pdc_session.proofs.recent.append_above.Goals as goal

pub append_bytes-requires : goal.append_bytes-requires
append_bytes-requires g c =
    let within : c.loop-place.place < length c.args.frames.now.items = search (rules, arith) in
    subst (λ (xs : List ℕ). length (g.B.Buffer.content c.loop-place.out) + length xs ≤ g.B.Buffer.capacity c.loop-place.out) (sym c.as_slice.ensures.value)
    (room_for_one c.args.instant c.loop-place.place c.args.frames.now.items c.item-frame.result.now (g.B.Buffer.content c.loop-place.out) (g.B.Buffer.content c.args.out.now) _ _ within c.item-frame.ensures c.if-instant-frame.true
    c.loop-place.invariant.bytes c.requires c.loop-place.invariant.in_place)
