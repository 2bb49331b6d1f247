use Rattle.pdc_world.proofs.Names.{ledger_has_room, ledger_view, station_view, world_view}
use Rattle.pdc_world.proofs.Parts.{room_again}
use Rattle.pdc_world.proofs.world.World.reserve.Goals as goal

pub invariant_of-self : goal.invariant_of-self
invariant_of-self g c =
    room_again (world_view (station_view g.S.Mark.stored c.self.inside.a) (station_view g.S.Mark.stored c.self.inside.b) (station_view g.S.Mark.stored c.self.inside.m) c.self.inside.ledger)
    (ledger_view c.make_room.new.self) (ledger_has_room c.make_room.new.self) c.make_room.ensures.same c.self.invariant
