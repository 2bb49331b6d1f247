use Rattle.std.proofs.Common.{subst}
use Rattle.std.specs.Prelude.{IfSome}
use Rattle.pdc_life.specs.MergerReading.{ReadsFrom}
use Rattle.pdc_life.specs.declared.merging.MergedNode.{MergedNode}
use Rattle.pdc_arrival.specs.Claimed.{claimed_view}
use Rattle.pdc_arrival.specs.declared.claimed.ClaimedData.{ClaimedData}
use Rattle.pdc_arrival.proofs.Claims.{claimed_said}
use Rattle.pdc_arrival.proofs.claimed.claim_from_node.Goals as goal

pub returns : goal.returns
returns c =
    claimed_said c.args.settings.now c.args.stream c.args.bytes.now c.claim_of.result c.requires
    (subst (λ (n : MergedNode). IfSome c.claim_of.result (λ (x : ClaimedData). ReadsFrom c.args.settings.now n c.args.bytes.now (claimed_view x))) c.node_of.ensures c.claim_of.ensures)
