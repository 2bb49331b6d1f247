-- Where a concentrator is on the network: keys of its settings that may be left out.
use Rattle.std.specs.Prelude.{◌≡◌, ℕ, List, [], ◌∷◌, codes, nat_le, if◌then◌else◌, map, Option, Some, None, option_and_then, string_bytes, ◌⊎◌}
use Rattle.std.specs.Net.Addr.{IsV4And, ipv4_octets}
use Rattle.std.specs.declared.net.ip_addr.IpAddr.{IpAddr}
use Rattle.toml.specs.Data.{Data, Items, Members, as_array, get_member}
use Rattle.pdc_settings.specs.Entries.{count_of, each_of}
use Rattle.pdc_settings.specs.Inputs.{EachSays, IsInput, IsNoInput, IsOneOf, streams_in}
use Rattle.pdc_keys.specs.Keys.{number_or, optional_number}
use Rattle.pdc_keys.specs.Places.{WritesIp, as_place}
use Rattle.pdc_settings.specs.declared.fault.SettingsFault.{SettingsFault}
use Rattle.pdc_settings.specs.declared.fault.SettingsFault.TheVariants.{Range, NoMemory}
use Rattle.pdc_keys.specs.declared.limits.TheConstants.{MAX_PORT}
use Rattle.pdc_settings.specs.declared.network.Network.{Network}
use Rattle.pdc_settings.specs.Limits.{MAX_OUTPUTS, MAX_RECEIVE_BUFFER, MAX_SESSIONS, MAX_TTL, RECEIVE_BUFFER, SESSIONS, TTL}
use Rattle.pdc_keys.specs.declared.unread.Unread.{Unread}
use Rattle.pdc_keys.specs.declared.wanted.Wanted.{Wanted}
use Rattle.pdc_keys.specs.declared.wanted.Wanted.TheVariants as Lacks

abbrev pub sessions_in : Members → Option ℕ
sessions_in members = number_or SESSIONS 1 MAX_SESSIONS (get_member (codes "sessions") members)

abbrev pub receive_buffer_in : Members → Option ℕ
receive_buffer_in members = number_or RECEIVE_BUFFER 1 MAX_RECEIVE_BUFFER (get_member (codes "receive_buffer") members)

abbrev pub ttl_in : Members → Option ℕ
ttl_in members = number_or TTL 1 MAX_TTL (get_member (codes "ttl") members)

-- the port at the key `metrics_port`: none where it is left out
abbrev pub metrics_port_in : Members → Option (Option ℕ)
metrics_port_in members = optional_number 1 MAX_PORT (get_member (codes "metrics_port") members)

-- the address at the key `address`: 127.0.0.1 where it is left out
abbrev pub IsAddress : Option Data → IpAddr → Type 0
IsAddress None ip = IsV4And ip (λ v4. ipv4_octets v4 ≡ 127 ∷ 0 ∷ 0 ∷ 1 ∷ [])
IsAddress (Some value) ip = WritesIp value ip

-- the places at the key `outputs`, at most 8: none where it is left out
abbrev pub few_outputs : Items → Option (List (List ℕ))
few_outputs values = if nat_le (count_of values) MAX_OUTPUTS then each_of as_place values else None

abbrev pub outputs_of : Option Data → Option (List (List ℕ))
outputs_of None = Some []
outputs_of (Some value) = option_and_then few_outputs (as_array value)

abbrev pub outputs_in : Members → Option (List (List ℕ))
outputs_in members = outputs_of (get_member (codes "outputs") members)

abbrev pub fault_at : Wanted → Unread → SettingsFault
fault_at wanted Unread.NoPlace = Range wanted
fault_at wanted Unread.NoMemory = NoMemory

abbrev pub fault_of : Unread → SettingsFault
fault_of = fault_at Lacks.Outputs

-- the settings say this of the network
pub record IsNetwork (members : Members) (network : Network) : Type 0 where
  pub address : IsAddress (get_member (codes "address") members) network.address
  pub outputs : outputs_in members ≡ Some (map string_bytes network.outputs.items)
  pub ttl : ttl_in members ≡ Some network.ttl
  pub receive_buffer : receive_buffer_in members ≡ Some network.receive_buffer
  pub sessions : sessions_in members ≡ Some network.sessions
  pub metrics_port : metrics_port_in members ≡ Some network.metrics_port
  pub inputs : EachSays IsInput (streams_in members) network.inputs.items

-- why they say none: the value at a key is not of its type and range
abbrev pub IsKeyFault : Members → SettingsFault → Type 0
IsKeyFault members (Range Lacks.Address) = (ip : IpAddr) → IsAddress (get_member (codes "address") members) ip → ⊥
IsKeyFault members (Range Lacks.Outputs) = outputs_in members ≡ None
IsKeyFault members (Range Lacks.Ttl) = ttl_in members ≡ None
IsKeyFault members (Range Lacks.ReceiveBuffer) = receive_buffer_in members ≡ None
IsKeyFault members (Range Lacks.Sessions) = sessions_in members ≡ None
IsKeyFault members (Range Lacks.MetricsPort) = metrics_port_in members ≡ None
IsKeyFault _ NoMemory = Unit {0}
IsKeyFault _ _ = ⊥

-- and such a value in the table of a stream
abbrev pub IsNetworkFault : Members → SettingsFault → Type 0
IsNetworkFault members fault = IsKeyFault members fault ⊎ IsOneOf (IsNoInput fault) (streams_in members)
