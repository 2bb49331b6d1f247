use Rattle.std.proofs.Common.{◌∙◌, ap, refl, sym}
use Rattle.pdc_world.proofs.Names.{ledger_view, who_of}
use Rattle.pdc_world.proofs.{Frames.{layout_some, layouts_told, layouts_untold, same_part}, Made.{ticked_made}}
use Rattle.pdc_world.proofs.ticks.tick.Goals as goal

pub send_layout-requires-clause-frame : goal.send_layout-requires-clause-frame
send_layout-requires-clause-frame g c =
    layout_some c.frames_are_known.ensures (who_of c.args.who) _ _ _ _ _ c.args.now c.tick-ticked.result (ap (λ l. l.table) c.make_room.ensures.same) c.requires.some
    c.tick-ticked.ensures.mark c.tick-ticked.ensures.answer c.tick-ticked.ensures.stands (sym c.is_some.ensures ∙ c.if-is_some.true)

pub returns-then-is_some-clause-made : goal.returns-then-is_some-clause-made
returns-then-is_some-clause-made g c =
    λ W H part.
    ticked_made W H c.args.who _ _ (ledger_view c.make_room.new.self) _ c.args.now c.tick-ticked.result
    (same_part _ _ _ _ _ (ledger_view c.make_room.new.self) c.make_room.ensures.same part)
    c.tick-ticked.ensures.mark c.tick-ticked.ensures.answer c.tick-ticked.ensures.stands c.send_layout.ensures.table
    (λ h E stands. layouts_told c.tick-ticked.result.change h E _ _ (sym c.is_some.ensures ∙ c.if-is_some.true) (c.send_layout.ensures.frames h E stands))
    c.send_layout.ensures.published

pub returns-else-is_some-clause-made : goal.returns-else-is_some-clause-made
returns-else-is_some-clause-made g c =
    λ W H part.
    ticked_made W H c.args.who _ _ (ledger_view c.make_room.new.self) (ledger_view c.make_room.new.self) c.args.now c.tick-ticked.result
    (same_part _ _ _ _ _ (ledger_view c.make_room.new.self) c.make_room.ensures.same part)
    c.tick-ticked.ensures.mark c.tick-ticked.ensures.answer c.tick-ticked.ensures.stands refl
    (λ h E stands. layouts_untold c.tick-ticked.result.change h E c.make_room.new.self.sent.frames (sym c.is_some.ensures ∙ c.if-is_some.false))
    refl
