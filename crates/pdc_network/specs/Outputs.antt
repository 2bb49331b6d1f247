-- Of what the outputs of a concentrator are made.
use Rattle.std.specs.Prelude.{List}
use Rattle.pdc_network.specs.declared.destination.Destination.{Destination}
use Rattle.pdc_network.specs.declared.outputs.UdpOutputs.{UdpOutputs}
use Rattle.pdc_network.specs.declared.udp_sink.UdpSink.{UdpSink}

-- the sink to its own reader
abbrev pub sink_of : {S : Type 0} → UdpOutputs S → UdpSink S
sink_of outputs = outputs.loopback

-- the further destinations, in their order
abbrev pub further_of : {S : Type 0} → UdpOutputs S → List (Destination S)
further_of outputs = outputs.destinations.items
