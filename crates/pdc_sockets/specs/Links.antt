-- Which links the settings name.
use Rattle.std.specs.Prelude.{◌≡◌, ℕ, Bool, false, true, List, [], ◌∷◌, IsSomeAnd, None, is_some}
use Rattle.std.specs.declared.net.ip_addr.IpAddr.{IpAddr}
use Rattle.pdc_network.specs.Linked.{limit_of, read_from, socket_of, source_of}
use Rattle.pdc_network.specs.declared.link.Link.{Link}
use Rattle.pdc_network.specs.declared.udp_source.UdpSource.{UdpSource}
use Rattle.pdc_settings.specs.declared.input.Input.{Input}
use Rattle.pdc_settings.specs.declared.network.Network.{Network}
use Rattle.pdc_sockets.specs.declared.concentrator.Concentrator.{Concentrator}
use Rattle.pdc_sockets.specs.declared.concentrator.Concentrator.TheVariants.{Merger, Node}

-- the ports of its streams, in their order: of the PMUs' tables, and of node A's and node B's
abbrev pub ports_of : Concentrator → List ℕ
ports_of (Node settings) = settings.ports.items
ports_of (Merger settings) = settings.first_port ∷ settings.second_port ∷ []

-- The socket was opened at this port of the network's address, with the network's buffer, and the address is read alone that the stream's table
-- names, if it names one.
pub record IsSourceAt {S : Type 0} (receives : S → IpAddr → ℕ → ℕ → Type 0) (network : Network) (port : ℕ) (input : Input) (source : UdpSource S) : Type 0 where
  pub opened : receives (socket_of source) network.address port network.receive_buffer
  pub from : read_from source ≡ input.from

-- a stream that is asked for over TCP comes to no port, and each other one to its own
abbrev pub ComesSo : {R S D T : Type 0} (receives : S → IpAddr → ℕ → ℕ → Type 0) → Network → (port : ℕ) → Input → (over_tcp : Bool) → Link R S D T → Type 0
ComesSo receives network port input true link = source_of link ≡ None
ComesSo receives network port input false link = IsSomeAnd (source_of link) (IsSourceAt receives network port input)

-- The link is as the settings say of its stream: how its frames come, and above which count its configurations are left out.
pub record IsLinkOf {R S D T : Type 0} (receives : S → IpAddr → ℕ → ℕ → Type 0) (network : Network) (port : ℕ) (input : Input) (link : Link R S D T) : Type 0 where
  pub comes : ComesSo receives network port input (is_some input.tcp) link
  pub limit : limit_of link ≡ input.most_count

-- These links are the first of those that the settings name: each, in order, is as the table and the port in its place say.
abbrev pub AreLinksOf : {R S D T : Type 0} (receives : S → IpAddr → ℕ → ℕ → Type 0) → Network → List Input → (ports : List ℕ) → List (Link R S D T) → Type 0
AreLinksOf receives network inputs ports [] = Unit {0}
AreLinksOf receives network [] ports (link ∷ links) = ⊥
AreLinksOf receives network (input ∷ inputs) [] (link ∷ links) = ⊥
AreLinksOf receives network (input ∷ inputs) (port ∷ ports) (link ∷ links) = IsLinkOf receives network port input link × AreLinksOf receives network inputs ports links
