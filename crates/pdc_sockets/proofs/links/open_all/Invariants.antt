use Rattle.std.proofs.Common.{◌≡◌, length}
use Rattle.pdc_sockets.specs.Links.{AreLinksOf}
use Rattle.pdc_sockets.proofs.links.open_all.Given as goal

abbrev pub invariant-loop-port : goal.invariant-loop-port
invariant-loop-port g l =
    (length l.links.sources.items ≡ l.port-index)
    × AreLinksOf g.S.Sockets.receives l.fn.network l.fn.network.inputs.items l.fn.ports l.links.sources.items
