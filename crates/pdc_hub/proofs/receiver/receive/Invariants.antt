use Rattle.std.proofs.Common.{◌≡◌, ◌≤◌}
use Rattle.pdc_ports.specs.Heard.{HasTold}
use Rattle.pdc_hub.specs.Received.{AreBrought}
use Rattle.pdc_hub.proofs.Receiving.{IsReceiving}
use Rattle.pdc_hub.proofs.receiver.receive.Given as goal

abbrev pub invariant-loop : goal.invariant-loop
invariant-loop g l =
    (l.shares.taken.parts ≡ 1) × (l.shares.refused.parts ≡ 1) × (l.shares.configured.parts ≡ 1) × (l.shares.taken.amount ≡ l.taken) × (l.shares.refused.amount ≡ l.refused)
    × (g.S.Source.failures_of l.initial.source ≤ g.S.Source.failures_of l.source)
    × IsReceiving (HasTold g.S.Source.told l.initial.source l.source) (AreBrought g.C.Core.rules g.N.Naming.given l.stream l.shares.front) l.taken l.refused l.shares.configured.amount
