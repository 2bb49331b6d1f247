use Rattle.std.proofs.Common.{◌≡◌, length, map}
use Rattle.std.specs.Prelude.{string_bytes}
use Rattle.pdc_sockets.specs.Outputs.{AreDestinationsOf}
use Rattle.pdc_sockets.proofs.outputs.open_destinations.Given as goal

abbrev pub invariant-loop-output : goal.invariant-loop-output
invariant-loop-output g l =
    (length l.destinations.items ≡ l.output-index)
    × AreDestinationsOf g.S.Sockets.sends l.fn.network.ttl (map string_bytes l.fn.network.outputs.items) l.destinations.items
