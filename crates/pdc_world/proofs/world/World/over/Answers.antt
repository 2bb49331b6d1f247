use Rattle.std.proofs.Common.{◌∙◌, refl, sym}
use Rattle.pdc_world.proofs.Names.{world_of}
use Rattle.pdc_world.proofs.{Agreements.{agree_from}, Openings.{may_begin, no_start, not_agreed}}
use Rattle.pdc_world.proofs.world.World.over.Goals as goal

pub returns-then-not-are_agreed-clause-fault : goal.returns-then-not-are_agreed-clause-fault
returns-then-not-are_agreed-clause-fault g c = record {
  at = refl;
  why = not_agreed c.args.a c.args.b c.args.m c.args.leads (g.S.Mark.stored c.args.stores.0) (g.S.Mark.stored c.args.stores.1) (g.S.Mark.stored c.args.stores.2) c.are_agreed.result c.are_agreed.ensures c.if-not-are_agreed.true;
}

pub returns-then-not-have_next-clause-fault : goal.returns-then-not-have_next-clause-fault
returns-then-not-have_next-clause-fault g c = record {
  at = refl;
  why = (
    agree_from (world_of c.args.a c.args.b c.args.m c.args.leads
        (g.S.Mark.stored c.args.stores.0) (g.S.Mark.stored c.args.stores.1) (g.S.Mark.stored c.args.stores.2)) (sym c.are_agreed.ensures ∙ c.if-not-are_agreed.false),
    no_start c.args.a c.args.b c.args.m c.args.leads (g.S.Mark.stored c.args.stores.0) (g.S.Mark.stored c.args.stores.1) (g.S.Mark.stored c.args.stores.2) c.have_next.result c.have_next.ensures c.if-not-have_next.true,
  );
}

pub returns-in-Err-clause-fault : goal.returns-in-Err-clause-fault
returns-in-Err-clause-fault g c = record {
  at = refl;
  why =
      may_begin c.args.a c.args.b c.args.m c.args.leads (g.S.Mark.stored c.args.stores.0) (g.S.Mark.stored c.args.stores.1) (g.S.Mark.stored c.args.stores.2) (sym c.are_agreed.ensures ∙ c.if-not-are_agreed.false)
      (sym c.have_next.ensures ∙ c.if-not-have_next.false);
}
