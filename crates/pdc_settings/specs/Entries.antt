-- What the tables of the PMUs and of the nodes say.
use Rattle.std.specs.Prelude.{ℕ, suc, List, [], ◌∷◌, codes, nat_le, ◌&&◌, if◌then◌else◌, Option, Some, None, option_and_then, option_map}
use Rattle.toml.specs.Data.{Data, Items, no_items, item, Members, as_array, as_table, get_member}
use Rattle.pdc_frame.specs.declared.limits.TheConstants.{MAX_ID}
use Rattle.pdc_life.specs.pdc_row.declared.limits.TheConstants.{MAX_PMUS}
use Rattle.pdc_life.specs.declared.pmu.Pmu.{Pmu}
use Rattle.pdc_life.specs.declared.merging.MergedNode.{MergedNode}
use Rattle.pdc_settings.specs.Common.{time_base_in}
use Rattle.pdc_keys.specs.Keys.{number_at, number_in}
use Rattle.pdc_keys.specs.declared.limits.TheConstants.{MAX_PORT}

-- a PMU, as its table says it
pub record PmuFields : Type 0 where
  pub stream : ℕ
  pub source : ℕ
  pub time_base : ℕ

abbrev pub pmu_fields : Pmu → PmuFields
pmu_fields pmu = record { stream = pmu.stream.value; source = pmu.source; time_base = pmu.time_base }

-- a node that the merger takes, as its table says it
pub record NodeFields : Type 0 where
  pub id : ℕ
  pub time_base : ℕ

abbrev pub node_fields : MergedNode → NodeFields
node_fields node = record { id = node.id.value; time_base = node.time_base }

-- the port of a stream; 0, which is none, where it is asked for over TCP
abbrev pub port_or : (tcp port : Option Data) → Option ℕ
port_or None port = number_in 1 MAX_PORT port
port_or (Some tcp) None = Some 0
port_or (Some tcp) (Some port) = None

abbrev pub port_in : Members → Option ℕ
port_in members = port_or (get_member (codes "tcp") members) (get_member (codes "port") members)

-- the source that a value is; where it is left out, the source is the stream
abbrev pub source_of : ℕ → Option Data → Option ℕ
source_of stream None = Some stream
source_of stream (Some value) = number_in 1 MAX_ID (Some value)

-- what a PMU's table says of it, at this rate
abbrev pub pmu_with : (stream : ℕ) → (source time_base : Option ℕ) → Option PmuFields
pmu_with stream None time_base = None
pmu_with stream (Some source) None = None
pmu_with stream (Some source) (Some time_base) = Some (record { stream = stream; source = source; time_base = time_base })

abbrev pub pmu_in : (rate : ℕ) → Members → Option PmuFields
pmu_in rate members =
    option_and_then (λ stream. pmu_with stream (source_of stream (get_member (codes "source") members)) (time_base_in rate members))
    (number_at (codes "stream") 1 MAX_ID members)

-- what a node's table says of it, at this rate
abbrev pub node_in : (rate : ℕ) → Members → Option NodeFields
node_in rate members =
    option_and_then (λ id. option_map (λ time_base. record { id = id; time_base = time_base }) (time_base_in rate members))
    (number_at (codes "id") 1 MAX_ID members)

-- a PMU, its port, and its source alone, as a value at the key `pmu` says them; a node with its port
abbrev pub pmu_of : (rate : ℕ) → Data → Option PmuFields
pmu_of rate value = option_and_then (pmu_in rate) (as_table value)

abbrev pub port_of : Data → Option ℕ
port_of value = option_and_then port_in (as_table value)

abbrev pub source_at : Data → Option ℕ
source_at value = option_and_then (number_at (codes "source") 1 MAX_ID) (as_table value)

abbrev pub node_of : (rate : ℕ) → Data → Option NodeFields
node_of rate value = option_and_then (node_in rate) (as_table value)

-- what each of the items says, where each says something
abbrev pub both : {A : Type 0} → Option A → Option (List A) → Option (List A)
both None others = None
both (Some a) None = None
both (Some a) (Some others) = Some (a ∷ others)

abbrev pub each_of : {A : Type 0} → (Data → Option A) → Items → Option (List A)
each_of f no_items = Some []
each_of f (item value values) = both (f value) (each_of f values)

abbrev pub count_of : Items → ℕ
count_of no_items = 0
count_of (item value values) = suc (count_of values)

-- the tables at the key `pmu`, 1 to 16 of them
abbrev pub some_pmus : Items → Option Items
some_pmus values = if nat_le 1 (count_of values) && nat_le (count_of values) MAX_PMUS then Some values else None

abbrev pub pmu_tables_in : Members → Option Items
pmu_tables_in members = option_and_then some_pmus (option_and_then as_array (get_member (codes "pmu") members))

-- the two tables at the key `node`: node A's and node B's
abbrev pub two_of : Items → Option (Data × Data)
two_of (item first (item second no_items)) = Some (first, second)
two_of values = None

abbrev pub node_tables_in : Members → Option (Data × Data)
node_tables_in members = option_and_then two_of (option_and_then as_array (get_member (codes "node") members))

-- the PMUs, and their ports, of a node's settings; the sources of the merger's
abbrev pub pmus_in : (rate : ℕ) → Members → Option (List PmuFields)
pmus_in rate members = option_and_then (each_of (pmu_of rate)) (pmu_tables_in members)

abbrev pub ports_in : Members → Option (List ℕ)
ports_in members = option_and_then (each_of port_of) (pmu_tables_in members)

abbrev pub sources_in : Members → Option (List ℕ)
sources_in members = option_and_then (each_of source_at) (pmu_tables_in members)

-- the nodes of the merger's settings, and their ports
abbrev pub first_node_in : (rate : ℕ) → Members → Option NodeFields
first_node_in rate members = option_and_then (λ (two : Data × Data). node_of rate two.0) (node_tables_in members)

abbrev pub second_node_in : (rate : ℕ) → Members → Option NodeFields
second_node_in rate members = option_and_then (λ (two : Data × Data). node_of rate two.1) (node_tables_in members)

abbrev pub first_port_in : Members → Option ℕ
first_port_in members = option_and_then (λ (two : Data × Data). port_of two.0) (node_tables_in members)

abbrev pub second_port_in : Members → Option ℕ
second_port_in members = option_and_then (λ (two : Data × Data). port_of two.1) (node_tables_in members)
