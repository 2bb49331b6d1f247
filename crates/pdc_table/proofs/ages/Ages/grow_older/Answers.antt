use Rattle.std.proofs.Common.{◌≡◌, ◌∙◌, ap, arith, length, map, sym, subst}
use Rattle.pdc_table.specs.AgesView.{AgesView, ages_at, earlier}
use Rattle.std.specs.List.{refill}
use Rattle.pdc_table.specs.RingRows.{older}
use Rattle.pdc_table.proofs.AgesKept.{AreReached, a_tick_earlier, a_tick_later, earlier_reached, moved_back}
use Rattle.pdc_table.proofs.ages.Ages.grow_older.Goals as goal

pub returns-then-self-lt18446744073709551615-clause-items : goal.returns-then-self-lt18446744073709551615-clause-items
returns-then-self-lt18446744073709551615-clause-items c =
    a_tick_later c.self.inside.ticks c.self.inside.since.items (omega (arith, c.if-self-lt18446744073709551615.true)) c.self.invariant
    ∙ ap (λ (ages : AgesView). map older ages.items) c.self.view_is

pub invariant_of-self-else-self-lt18446744073709551615 : goal.invariant_of-self-else-self-lt18446744073709551615
invariant_of-self-else-self-lt18446744073709551615 c =
    let back : refill (length c.self.inside.since.items) c.self.inside.since.items c.move_back.new.counts ≡ map earlier c.self.inside.since.items = moved_back c.self.inside.since.items c.as_mut_slice.result.now c.move_back.new.counts c.as_mut_slice.ensures.value c.move_back.ensures in
    subst (AreReached c.self.inside.ticks) (sym back) (earlier_reached c.self.inside.ticks c.self.inside.since.items c.self.invariant)

pub returns-else-self-lt18446744073709551615-clause-items : goal.returns-else-self-lt18446744073709551615-clause-items
returns-else-self-lt18446744073709551615-clause-items c =
    let back : refill (length c.self.inside.since.items) c.self.inside.since.items c.move_back.new.counts ≡ map earlier c.self.inside.since.items = moved_back c.self.inside.since.items c.as_mut_slice.result.now c.move_back.new.counts c.as_mut_slice.ensures.value c.move_back.ensures in
    ap (ages_at c.self.inside.ticks) back
    ∙ a_tick_earlier c.self.inside.ticks c.self.inside.since.items (omega (arith, c.if-self-lt18446744073709551615.false, c.self.ranges)) c.self.invariant
    ∙ ap (λ (ages : AgesView). map older ages.items) c.self.view_is
