-- How the frames of each stream come: keys of its table that may be left out.
use Rattle.std.specs.Prelude.{◌≡◌, ◌⊎◌, ℕ, List, [], ◌∷◌, codes, if◌then◌else◌, Option, Some, None, option_and_then, option_map, string_bytes}
use Rattle.std.specs.declared.net.ip_addr.IpAddr.{IpAddr}
use Rattle.toml.specs.Data.{Data, Items, no_items, item, Members, as_array, as_str, as_table, get_member}
use Rattle.pdc_settings.specs.Kind.{is_merger}
use Rattle.pdc_keys.specs.Keys.{items_or_none, optional_number}
use Rattle.pdc_keys.specs.Places.{WritesIp, as_place}
use Rattle.pdc_keys.specs.declared.limits.TheConstants.{MAX_COUNT}
use Rattle.pdc_settings.specs.declared.fault.SettingsFault.{SettingsFault}
use Rattle.pdc_settings.specs.declared.fault.SettingsFault.TheVariants.{Range, NoMemory}
use Rattle.pdc_settings.specs.declared.input.Input.{Input}
use Rattle.pdc_keys.specs.declared.wanted.Wanted.TheVariants as Lacks

-- the tables of the streams: the nodes' of a merger, the PMUs' of a node
abbrev pub streams_in : Members → Items
streams_in members = items_or_none (option_and_then as_array (if is_merger members then get_member (codes "node") members else get_member (codes "pmu") members))

-- the value at a key of one of them
abbrev pub at_key : List ℕ → Data → Option Data
at_key key value = option_and_then (get_member key) (as_table value)

-- a place that may be left out
abbrev pub place_or_none : Option Data → Option (Option (List ℕ))
place_or_none None = Some None
place_or_none (Some value) = option_map (λ text. Some text) (as_place value)

-- a place beside the port, and so none where the stream is asked for over TCP
abbrev pub place_beside : (tcp text : Option Data) → Option (Option (List ℕ))
place_beside tcp None = Some None
place_beside None (Some value) = option_map (λ text. Some text) (as_place value)
place_beside (Some tcp) (Some value) = None

-- an address beside the port, likewise
abbrev pub IsFrom : (tcp from : Option Data) → Option IpAddr → Type 0
IsFrom tcp None None = Unit {0}
IsFrom tcp None (Some ip) = ⊥
IsFrom None (Some value) None = ⊥
IsFrom None (Some value) (Some ip) = WritesIp value ip
IsFrom (Some tcp) (Some value) from = ⊥

abbrev pub tcp_of : Data → Option (Option (List ℕ))
tcp_of value = place_or_none (at_key (codes "tcp") value)

abbrev pub commands_of : Data → Option (Option (List ℕ))
commands_of value = place_beside (at_key (codes "tcp") value) (at_key (codes "commands") value)

abbrev pub HasFrom : Data → Option IpAddr → Type 0
HasFrom value = IsFrom (at_key (codes "tcp") value) (at_key (codes "from") value)

-- the greatest count that its configurations may have: none where it is left out
abbrev pub most_count_of : Data → Option (Option ℕ)
most_count_of value = optional_number 1 MAX_COUNT (at_key (codes "most_count") value)

-- the table of a stream says this of how its frames come
pub record IsInput (value : Data) (input : Input) : Type 0 where
  pub tcp : tcp_of value ≡ Some (option_map string_bytes input.tcp)
  pub commands : commands_of value ≡ Some (option_map string_bytes input.commands)
  pub from : HasFrom value input.from
  pub most_count : most_count_of value ≡ Some input.most_count

-- why it says nothing: a key is of another type, or stands beside `tcp`
abbrev pub IsNoInput : SettingsFault → Data → Type 0
IsNoInput (Range Lacks.Tcp) value = tcp_of value ≡ None
IsNoInput (Range Lacks.Commands) value = commands_of value ≡ None
IsNoInput (Range Lacks.From) value = (from : Option IpAddr) → HasFrom value from → ⊥
IsNoInput (Range Lacks.MostCount) value = most_count_of value ≡ None
IsNoInput NoMemory value = Unit {0}
IsNoInput _ value = ⊥

-- each of the values says one of these, in their order
abbrev pub EachSays : {A : Type 0} → (Data → A → Type 0) → Items → List A → Type 0
EachSays Says no_items [] = Unit {0}
EachSays Says no_items (a ∷ all) = ⊥
EachSays Says (item value values) [] = ⊥
EachSays Says (item value values) (a ∷ all) = Says value a × EachSays Says values all

-- one of the values is such
abbrev pub IsOneOf : (Data → Type 0) → Items → Type 0
IsOneOf P no_items = ⊥
IsOneOf P (item value values) = P value ⊎ IsOneOf P values
