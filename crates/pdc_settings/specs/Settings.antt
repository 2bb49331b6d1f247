-- What a text of settings gives.
use Rattle.std.specs.Prelude.{◌≡◌, ℕ, Bool, ◌&&◌, not, List, ◌∷◌, codes, is_some, map, option_and_then, IsSomeAnd, None, Some, false, true}
use Rattle.toml.specs.Data.{Members}
use Rattle.toml.specs.Parse.{parse_document}
use Rattle.pdc_life.specs.Distinct.{are_distinct}
use Rattle.pdc_settings.specs.Common.{IsOutput, IsService, IsTiming, has_common, id_in, rate_in}
use Rattle.pdc_settings.specs.Entries.{NodeFields, PmuFields, first_node_in, first_port_in, node_fields, pmu_fields, pmus_in, ports_in, second_node_in, second_port_in, sources_in}
use Rattle.pdc_settings.specs.declared.fault.SettingsFault.{SettingsFault}
use Rattle.pdc_settings.specs.declared.fault.SettingsFault.TheVariants.{Toml, Range, DoubledId, NoMemory}
use Rattle.pdc_settings.specs.declared.merger.MergerSettings.{MergerSettings}
use Rattle.pdc_settings.specs.declared.node.NodeSettings.{NodeSettings}
use Rattle.pdc_settings.specs.Kind.{is_merger}
use Rattle.pdc_settings.specs.declared.common.Common.{Common}

-- the settings say this of what a node and the merger are told alike
pub record IsCommon (members : Members) (common : Common) : Type 0 where
  pub output : IsOutput members common.output
  pub timing : IsTiming members common.timing
  pub service : IsService members common.service

-- the settings of a node say this
pub record IsNodeSettings (members : Members) (settings : NodeSettings) : Type 0 where
  pub kind : is_merger members ≡ false
  pub output : IsOutput members settings.life.output
  pub timing : IsTiming members settings.life.timing
  pub service : IsService members settings.service
  pub pmus : pmus_in settings.life.output.rate members ≡ Some (map pmu_fields settings.life.pmus.items)
  pub ports : ports_in members ≡ Some settings.ports.items

-- the settings of the merger say this
pub record IsMergerSettings (members : Members) (settings : MergerSettings) : Type 0 where
  pub kind : is_merger members ≡ true
  pub output : IsOutput members settings.life.output
  pub timing : IsTiming members settings.life.timing
  pub service : IsService members settings.service
  pub first : first_node_in settings.life.output.rate members ≡ Some (node_fields settings.life.first)
  pub second : second_node_in settings.life.output.rate members ≡ Some (node_fields settings.life.second)
  pub first_port : first_port_in members ≡ Some settings.first_port
  pub second_port : second_port_in members ≡ Some settings.second_port
  pub sources : sources_in members ≡ Some settings.life.sources.items

-- each key of a node's document is there, and in its range; it has no key `node`
abbrev pub has_pmus : Members → Bool
has_pmus members = is_some (option_and_then (λ rate. pmus_in rate members) (rate_in members)) && is_some (ports_in members)

abbrev pub has_node_keys : Members → Bool
has_node_keys members = not (is_merger members) && (has_common members && has_pmus members)

-- the same of the merger's, which has one
abbrev pub has_nodes : Members → Bool
has_nodes members =
    (is_some (option_and_then (λ rate. first_node_in rate members) (rate_in members)) && is_some (first_port_in members))
    && (is_some (option_and_then (λ rate. second_node_in rate members) (rate_in members)) && is_some (second_port_in members))

abbrev pub has_merger_keys : Members → Bool
has_merger_keys members = is_merger members && (has_common members && (has_nodes members && is_some (sources_in members)))

-- a node's ids that must differ: those of the streams, and those of the sources, from one another and from the node's own
abbrev pub are_node_ids : (id : ℕ) (streams sources : List ℕ) → Bool
are_node_ids id streams sources = are_distinct (id ∷ streams) && are_distinct (id ∷ sources)

-- the merger's: its own from those of the sources, and both nodes' and those of the sources from one another
abbrev pub are_merger_ids : (id first second : ℕ) (sources : List ℕ) → Bool
are_merger_ids id first second sources = are_distinct (id ∷ sources) && are_distinct (first ∷ second ∷ sources)

-- its keys are all there, and two ids are the same that must differ
pub record HasDoubledIds (members : Members) : Type 0 where
  pub keys : has_node_keys members ≡ true
  pub id : ℕ
  pub rate : ℕ
  pub pmus : List PmuFields
  pub id_is : id_in members ≡ Some id
  pub rate_is : rate_in members ≡ Some rate
  pub pmus_are : pmus_in rate members ≡ Some pmus
  pub doubled : are_node_ids id (map (λ (pmu : PmuFields). pmu.stream) pmus) (map (λ (pmu : PmuFields). pmu.source) pmus) ≡ false

pub record HasDoubledSources (members : Members) : Type 0 where
  pub keys : has_merger_keys members ≡ true
  pub id : ℕ
  pub rate : ℕ
  pub first : NodeFields
  pub second : NodeFields
  pub sources : List ℕ
  pub id_is : id_in members ≡ Some id
  pub rate_is : rate_in members ≡ Some rate
  pub first_is : first_node_in rate members ≡ Some first
  pub second_is : second_node_in rate members ≡ Some second
  pub sources_are : sources_in members ≡ Some sources
  pub doubled : are_merger_ids id first.id second.id sources ≡ false

-- why a document is no settings: a key is missing or out of its range; else two ids are the same
abbrev pub IsNodeFault : Members → SettingsFault → Type 0
IsNodeFault _ Toml = ⊥
IsNodeFault members (Range wanted) = has_node_keys members ≡ false
IsNodeFault members DoubledId = HasDoubledIds members
IsNodeFault _ NoMemory = ⊥

abbrev pub IsMergerFault : Members → SettingsFault → Type 0
IsMergerFault _ Toml = ⊥
IsMergerFault members (Range wanted) = has_merger_keys members ≡ false
IsMergerFault members DoubledId = HasDoubledSources members
IsMergerFault _ NoMemory = ⊥

-- why a text is none: it is no document, or a document that is none; or memory was wanted
abbrev pub IsFaultOf : (Members → SettingsFault → Type 0) → List ℕ → SettingsFault → Type 0
IsFaultOf IsFault text Toml = parse_document text ≡ None
IsFaultOf IsFault text (Range wanted) = IsSomeAnd (parse_document text) (λ members. IsFault members (Range wanted))
IsFaultOf IsFault text DoubledId = IsSomeAnd (parse_document text) (λ members. IsFault members DoubledId)
IsFaultOf IsFault text NoMemory = Unit {0}
