-- Which outputs the settings name.
use Rattle.std.specs.Prelude.{◌≡◌, ℕ, List, [], ◌∷◌, length, map, string_bytes}
use Rattle.pdc_network.specs.Outputs.{further_of, sink_of}
use Rattle.pdc_network.specs.declared.destination.Destination.{Destination}
use Rattle.pdc_network.specs.declared.outputs.UdpOutputs.{UdpOutputs}
use Rattle.pdc_network.specs.declared.udp_sink.UdpSink.{UdpSink}
use Rattle.pdc_settings.specs.declared.network.Network.{Network}

-- These destinations are the first of those that the texts name: each, in order, was opened for the text in its place, with so many hops.
abbrev pub AreDestinationsOf : {S : Type 0} (sends : Destination S → List ℕ → ℕ → Type 0) (hops : ℕ) → List (List ℕ) → List (Destination S) → Type 0
AreDestinationsOf sends hops texts [] = Unit {0}
AreDestinationsOf sends hops [] (one ∷ destinations) = ⊥
AreDestinationsOf sends hops (text ∷ texts) (one ∷ destinations) = sends one text hops × AreDestinationsOf sends hops texts destinations

-- Frames go to this port of the loopback, and to each further destination of the settings, in their order, with their hops.
pub record AreOutputsOf {S : Type 0} (feeds : UdpSink S → ℕ → Type 0) (sends : Destination S → List ℕ → ℕ → Type 0) (network : Network) (port : ℕ) (outputs : UdpOutputs S) : Type 0 where
  pub sink : feeds (sink_of outputs) port
  pub count : length (further_of outputs) ≡ length network.outputs.items
  pub further : AreDestinationsOf sends network.ttl (map string_bytes network.outputs.items) (further_of outputs)
