use Rattle.std.proofs.Common.{◌∙◌, ap, subst, sym}
use Rattle.pdc_world.proofs.Names.{A, asked_of, B, core_in, Holds, ledger_has_room, ledger_view, M, MergerView, NodeView, OfMerger, OfNode, station_view, StationView, who_of, world_view, WorldView}
use Rattle.pdc_world.proofs.Parts.{made_at, on_err_map, some_again, some_at, why_at, with_station}
use Rattle.pdc_world.proofs.world.World.act_for.Goals as goal

pub act-requires : goal.act-requires
act-requires g c =
    some_at (world_view (station_view g.S.Mark.stored c.self.inside.a) (station_view g.S.Mark.stored c.self.inside.b) (station_view g.S.Mark.stored c.self.inside.m) c.self.inside.ledger) A (core_in c.args.event.now)
    (sym c.receiver.ensures ∙ ap who_of c.in-A.is) c.self.invariant

pub invariant_of-self : goal.invariant_of-self
invariant_of-self g c =
    let v : WorldView = world_view (station_view g.S.Mark.stored c.self.inside.a) (station_view g.S.Mark.stored c.self.inside.b) (station_view g.S.Mark.stored c.self.inside.m) c.self.inside.ledger in
    let new : StationView NodeView = station_view g.S.Mark.stored c.act.new.station in
    some_again (asked_of c.args.event.now) v (with_station v A new (ledger_view c.act.new.ledger) (ledger_has_room c.act.new.ledger)) c.act.result c.self.invariant
    (made_at (asked_of c.args.event.now) v A (core_in c.args.event.now) new (ledger_view c.act.new.ledger) (ledger_has_room c.act.new.ledger) c.act.result
    (sym c.receiver.ensures ∙ ap who_of c.in-A.is) (ap OfNode c.act.ensures.settings) c.act.ensures.lead c.act.ensures.made)
    (on_err_map c.act.result (λ same i. record v { a = station_view g.S.Mark.stored (same.0 i); ledger = same.1 i; has_room = same.2 i }) c.act.ensures.err)

pub returns-in-A-clause-made : goal.returns-in-A-clause-made
returns-in-A-clause-made g c =
    λ W H holds.
    made_at (asked_of c.args.event.now) (world_view (station_view g.S.Mark.stored c.self.inside.a) (station_view g.S.Mark.stored c.self.inside.b) (station_view g.S.Mark.stored c.self.inside.m) c.self.inside.ledger) A (core_in c.args.event.now)
    (station_view g.S.Mark.stored c.act.new.station) (ledger_view c.act.new.ledger) (ledger_has_room c.act.new.ledger) c.act.result
    (sym c.receiver.ensures ∙ ap who_of c.in-A.is) (ap OfNode c.act.ensures.settings) c.act.ensures.lead c.act.ensures.made W H (subst (Holds W H) (sym c.self.view_is) holds)

pub returns-in-A-clause-why : goal.returns-in-A-clause-why
returns-in-A-clause-why g c =
    λ W H holds.
    why_at (asked_of c.args.event.now) (world_view (station_view g.S.Mark.stored c.self.inside.a) (station_view g.S.Mark.stored c.self.inside.b) (station_view g.S.Mark.stored c.self.inside.m) c.self.inside.ledger) A (core_in c.args.event.now) c.act.result
    (sym c.receiver.ensures ∙ ap who_of c.in-A.is) c.act.ensures.why W H (subst (Holds W H) (sym c.self.view_is) holds)

pub act-requires-in-B : goal.act-requires-in-B
act-requires-in-B g c =
    some_at (world_view (station_view g.S.Mark.stored c.self.inside.a) (station_view g.S.Mark.stored c.self.inside.b) (station_view g.S.Mark.stored c.self.inside.m) c.self.inside.ledger) B (core_in c.args.event.now)
    (sym c.receiver.ensures ∙ ap who_of c.in-B.is) c.self.invariant

pub invariant_of-self-in-B : goal.invariant_of-self-in-B
invariant_of-self-in-B g c =
    let v : WorldView = world_view (station_view g.S.Mark.stored c.self.inside.a) (station_view g.S.Mark.stored c.self.inside.b) (station_view g.S.Mark.stored c.self.inside.m) c.self.inside.ledger in
    let new : StationView NodeView = station_view g.S.Mark.stored c.act-in-B.new.station in
    some_again (asked_of c.args.event.now) v (with_station v B new (ledger_view c.act-in-B.new.ledger) (ledger_has_room c.act-in-B.new.ledger)) c.act-in-B.result c.self.invariant
    (made_at (asked_of c.args.event.now) v B (core_in c.args.event.now) new (ledger_view c.act-in-B.new.ledger) (ledger_has_room c.act-in-B.new.ledger) c.act-in-B.result
    (sym c.receiver.ensures ∙ ap who_of c.in-B.is) (ap OfNode c.act-in-B.ensures.settings) c.act-in-B.ensures.lead c.act-in-B.ensures.made)
    (on_err_map c.act-in-B.result (λ same i. record v { b = station_view g.S.Mark.stored (same.0 i); ledger = same.1 i; has_room = same.2 i }) c.act-in-B.ensures.err)

pub returns-in-B-clause-made : goal.returns-in-B-clause-made
returns-in-B-clause-made g c =
    λ W H holds.
    made_at (asked_of c.args.event.now) (world_view (station_view g.S.Mark.stored c.self.inside.a) (station_view g.S.Mark.stored c.self.inside.b) (station_view g.S.Mark.stored c.self.inside.m) c.self.inside.ledger) B (core_in c.args.event.now)
    (station_view g.S.Mark.stored c.act-in-B.new.station) (ledger_view c.act-in-B.new.ledger) (ledger_has_room c.act-in-B.new.ledger) c.act-in-B.result
    (sym c.receiver.ensures ∙ ap who_of c.in-B.is) (ap OfNode c.act-in-B.ensures.settings) c.act-in-B.ensures.lead c.act-in-B.ensures.made W H (subst (Holds W H) (sym c.self.view_is) holds)

pub returns-in-B-clause-why : goal.returns-in-B-clause-why
returns-in-B-clause-why g c =
    λ W H holds.
    why_at (asked_of c.args.event.now) (world_view (station_view g.S.Mark.stored c.self.inside.a) (station_view g.S.Mark.stored c.self.inside.b) (station_view g.S.Mark.stored c.self.inside.m) c.self.inside.ledger) B (core_in c.args.event.now) c.act-in-B.result
    (sym c.receiver.ensures ∙ ap who_of c.in-B.is) c.act-in-B.ensures.why W H (subst (Holds W H) (sym c.self.view_is) holds)

pub act-requires-in-M : goal.act-requires-in-M
act-requires-in-M g c =
    some_at (world_view (station_view g.S.Mark.stored c.self.inside.a) (station_view g.S.Mark.stored c.self.inside.b) (station_view g.S.Mark.stored c.self.inside.m) c.self.inside.ledger) M (core_in c.args.event.now)
    (sym c.receiver.ensures ∙ ap who_of c.in-M.is) c.self.invariant

pub invariant_of-self-in-M : goal.invariant_of-self-in-M
invariant_of-self-in-M g c =
    let v : WorldView = world_view (station_view g.S.Mark.stored c.self.inside.a) (station_view g.S.Mark.stored c.self.inside.b) (station_view g.S.Mark.stored c.self.inside.m) c.self.inside.ledger in
    let new : StationView MergerView = station_view g.S.Mark.stored c.act-in-M.new.station in
    some_again (asked_of c.args.event.now) v (with_station v M new (ledger_view c.act-in-M.new.ledger) (ledger_has_room c.act-in-M.new.ledger)) c.act-in-M.result c.self.invariant
    (made_at (asked_of c.args.event.now) v M (core_in c.args.event.now) new (ledger_view c.act-in-M.new.ledger) (ledger_has_room c.act-in-M.new.ledger) c.act-in-M.result
    (sym c.receiver.ensures ∙ ap who_of c.in-M.is) (ap OfMerger c.act-in-M.ensures.settings) c.act-in-M.ensures.lead c.act-in-M.ensures.made)
    (on_err_map c.act-in-M.result (λ same i. record v { m = station_view g.S.Mark.stored (same.0 i); ledger = same.1 i; has_room = same.2 i }) c.act-in-M.ensures.err)

pub returns-in-M-clause-made : goal.returns-in-M-clause-made
returns-in-M-clause-made g c =
    λ W H holds.
    made_at (asked_of c.args.event.now) (world_view (station_view g.S.Mark.stored c.self.inside.a) (station_view g.S.Mark.stored c.self.inside.b) (station_view g.S.Mark.stored c.self.inside.m) c.self.inside.ledger) M (core_in c.args.event.now)
    (station_view g.S.Mark.stored c.act-in-M.new.station) (ledger_view c.act-in-M.new.ledger) (ledger_has_room c.act-in-M.new.ledger) c.act-in-M.result
    (sym c.receiver.ensures ∙ ap who_of c.in-M.is) (ap OfMerger c.act-in-M.ensures.settings) c.act-in-M.ensures.lead c.act-in-M.ensures.made W H (subst (Holds W H) (sym c.self.view_is) holds)

pub returns-in-M-clause-why : goal.returns-in-M-clause-why
returns-in-M-clause-why g c =
    λ W H holds.
    why_at (asked_of c.args.event.now) (world_view (station_view g.S.Mark.stored c.self.inside.a) (station_view g.S.Mark.stored c.self.inside.b) (station_view g.S.Mark.stored c.self.inside.m) c.self.inside.ledger) M (core_in c.args.event.now) c.act-in-M.result
    (sym c.receiver.ensures ∙ ap who_of c.in-M.is) c.act-in-M.ensures.why W H (subst (Holds W H) (sym c.self.view_is) holds)
