-- When two ports at which is listened are one.
use Rattle.std.specs.Prelude.{◌==◌, ◌&&◌, ◌||◌, not, ℕ, Bool, List, [], ◌∷◌, ◌++◌, if◌then◌else◌, Option, Some, None}
use Rattle.std.specs.List.{list_all}
use Rattle.std.specs.Net.Addr.{ipv4_octets, ipv6_octets}
use Rattle.std.specs.Option.{option_to_list}
use Rattle.std.specs.Str.{bytes_eq}
use Rattle.std.specs.declared.net.ip_addr.IpAddr.{IpAddr}
use Rattle.std.specs.declared.net.ip_addr.IpAddr.TheVariants.{V4, V6}
use Rattle.pdc_check.specs.declared.finding.Finding.{Finding}
use Rattle.pdc_check.specs.declared.finding.Finding.TheVariants.{PortTwice}
use Rattle.pdc_check.specs.declared.misfit.Misfit.{Misfit}
use Rattle.pdc_check.specs.declared.misfit.Misfit.TheVariants.{PerhapsSamePort, SamePort}
use Rattle.pdc_check.specs.declared.port.Meeting.{Meeting}
use Rattle.pdc_check.specs.declared.port.Meeting.TheVariants.{Apart, Perhaps, Same}
use Rattle.pdc_check.specs.declared.port.UsedPort.{UsedPort}

-- the bytes of an address
abbrev pub bytes_of : IpAddr → List ℕ
bytes_of (V4 ip) = ipv4_octets ip
bytes_of (V6 ip) = ipv6_octets ip

-- each address of its machine: `0.0.0.0` or `::`
abbrev pub is_any : IpAddr → Bool
is_any address = list_all (λ byte. byte == 0) (bytes_of address)

-- those of two kinds have other lengths
abbrev pub is_one_address : IpAddr → IpAddr → Bool
is_one_address one other = bytes_eq (bytes_of one) (bytes_of other)

-- one that is any may be that of the other; two of one machine are one where they are alike
abbrev pub meeting_of : IpAddr → IpAddr → Meeting
meeting_of one other = if is_any one || is_any other then Perhaps else (if is_one_address one other then Same else Apart)

-- both of UDP or both of TCP, and of one number
abbrev pub same_kind : Bool → Bool → Bool
same_kind one other = if one then other else not other

abbrev pub is_alike : UsedPort → UsedPort → Bool
is_alike one other = same_kind one.is_tcp other.is_tcp && one.port == other.port

-- within the settings of one, whose addresses are of one machine
abbrev pub twice : UsedPort → UsedPort → Meeting → Option Finding
twice one other Apart = None
twice one other Perhaps = if is_alike one other then Some (PortTwice one.key other.key one.port) else None
twice one other Same = if is_alike one other then Some (PortTwice one.key other.key one.port) else None

-- of two, which may be on two machines: on one, if both name an address
abbrev pub shared : UsedPort → UsedPort → Meeting → Option Misfit
shared one other Apart = None
shared one other Perhaps = if is_alike one other then Some (PerhapsSamePort one.key other.key one.port) else None
shared one other Same = if is_alike one other then Some (SamePort one.key other.key one.port) else None

-- of one port with each of some others
abbrev pub twice_in : UsedPort → List UsedPort → List Finding
twice_in one [] = []
twice_in one (other ∷ others) = option_to_list (twice one other (meeting_of one.address other.address)) ++ twice_in one others

-- of each two of one concentrator
abbrev pub port_findings : List UsedPort → List Finding
port_findings [] = []
port_findings (one ∷ others) = twice_in one others ++ port_findings others

-- of one port with each of the other concentrator's
abbrev pub shared_in : UsedPort → List UsedPort → List Misfit
shared_in one [] = []
shared_in one (other ∷ others) = option_to_list (shared one other (meeting_of one.address other.address)) ++ shared_in one others

-- of each port of one with each of the other
abbrev pub port_misfits : (ones others : List UsedPort) → List Misfit
port_misfits [] others = []
port_misfits (one ∷ ones) others = shared_in one others ++ port_misfits ones others
