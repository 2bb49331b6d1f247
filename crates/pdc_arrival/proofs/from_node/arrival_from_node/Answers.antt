use Rattle.std.proofs.Common.{subst, sym}
use Rattle.pdc_life.specs.MergerReading.{ReadsFrom}
use Rattle.pdc_life.specs.declared.merging.MergedNode.{MergedNode}
use Rattle.pdc_arrival.specs.Heard.{HearsFrom, node_of}
use Rattle.pdc_arrival.specs.Views.{arrival_view}
use Rattle.pdc_arrival.proofs.Listed.{listed_at}
use Rattle.pdc_arrival.proofs.from_node.arrival_from_node.Goals as goal

pub returns : goal.returns
returns c bytes h = record {
  sender = node_of c.args.settings.now c.args.stream;
  listed = listed_at c.args.settings.now c.args.stream c.requires;
  reads = subst (λ (n : MergedNode). ReadsFrom c.args.settings.now n bytes (arrival_view c.arrival_of.result)) c.node_of.ensures
      (c.arrival_of.ensures bytes (subst (λ (n : MergedNode). HearsFrom c.args.settings.now n bytes c.args.heard) (sym c.node_of.ensures) h));
}
