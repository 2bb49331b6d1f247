use Rattle.std.proofs.Common.{[], ◌∙◌, ap}
use Rattle.pdc_world.proofs.Names.{Settings, station_view, world_of, world_view, WorldView}
use Rattle.pdc_world.proofs.Openings.{begun_holds, left_from}
use Rattle.pdc_world.proofs.world.World.begun.Goals as goal

pub returns-clause-holds : goal.returns-clause-holds
returns-clause-holds g c =
    let v : WorldView = world_view (station_view g.S.Mark.stored c.in_ok-begun.field-0) (station_view g.S.Mark.stored c.in_ok-begun-2.field-0) (station_view g.S.Mark.stored c.in_ok-begun-3.field-0) c.in_ok-ledger.ledger in
    begun_holds c.args.a c.args.b c.args.m c.args.leads (g.S.Mark.stored c.args.stores.0) (g.S.Mark.stored c.args.stores.1) (g.S.Mark.stored c.args.stores.2) v c.requires.agree c.requires.left
    c.in_ok-begun.ensures.mark c.in_ok-begun.ensures.stands c.in_ok-begun.ensures.settings c.in_ok-begun.ensures.lead
    c.in_ok-begun-2.ensures.mark c.in_ok-begun-2.ensures.stands c.in_ok-begun-2.ensures.settings c.in_ok-begun-2.ensures.lead
    c.in_ok-begun-3.ensures.mark c.in_ok-begun-3.ensures.stands c.in_ok-begun-3.ensures.settings c.in_ok-begun-3.ensures.lead
    (c.in_ok-ledger.ensures.none ∙ ap (λ (s : Settings). record { table = s; frames = []; published = [] }) c.copy_of.ensures)

pub invariant_of-result : goal.invariant_of-result
invariant_of-result g c =
    λ none. none (world_of c.args.a c.args.b c.args.m c.args.leads (g.S.Mark.stored c.args.stores.0) (g.S.Mark.stored c.args.stores.1) (g.S.Mark.stored c.args.stores.2)) [] (returns-clause-holds g c)

pub begun-requires-3 : goal.begun-requires-3
begun-requires-3 g c = (left_from (g.S.Mark.stored c.args.stores.0) (g.S.Mark.stored c.args.stores.1) (g.S.Mark.stored c.args.stores.2) c.requires.left).m
