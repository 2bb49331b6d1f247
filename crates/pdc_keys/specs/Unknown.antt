-- The keys of a settings text that nothing reads, table by table.
use Rattle.std.specs.Prelude.{ℕ, suc, Bool, false, ◌||◌, List, [], ◌∷◌, ◌++◌, codes, nat_eq, if◌then◌else◌, Option, Some, None, is_some, option_map, string_bytes}
use Rattle.std.specs.Cmp.Lexicographic.{pointwise}
use Rattle.toml.specs.Data.{Items, no_items, item, Members, no_members, member, as_table, get_member}
use Rattle.pdc_keys.specs.Keys.{items_at}
use Rattle.pdc_keys.specs.Known.{merged_node_keys, merged_pmu_keys, pmu_keys, top_keys}
use Rattle.pdc_keys.specs.Near.{nearest_of}
use Rattle.pdc_keys.specs.declared.owner.KeyTable.{KeyTable}
use Rattle.pdc_keys.specs.declared.owner.KeyTable.TheVariants.{MergedPmu, NodePmu}
use Rattle.pdc_keys.specs.declared.unknown.TableName.{TableName}
use Rattle.pdc_keys.specs.declared.unknown.TableName.TheVariants.{Top, Pmu, Node}
use Rattle.pdc_keys.specs.declared.unknown.UnknownKey.{UnknownKey}

-- an unknown key: in which table it stands, and the known one that is nearest
pub record UnknownFields : Type 0 where
  pub place : TableName
  pub name : List ℕ
  pub nearest : Option (List ℕ)

abbrev pub unknown_fields : UnknownKey → UnknownFields
unknown_fields key = record { place = key.table; name = string_bytes key.name; nearest = option_map (λ known. known.now) key.nearest }

-- the key is one of these
abbrev pub is_one_of : List ℕ → List (List ℕ) → Bool
is_one_of key [] = false
is_one_of key (name ∷ names) = pointwise nat_eq key name || is_one_of key names

abbrev pub unknown_of : TableName → List (List ℕ) → List ℕ → UnknownFields
unknown_of place known key = record { place = place; name = key; nearest = nearest_of key known }

-- those of these keys that are not known, in their order
abbrev pub unknown_among : TableName → List (List ℕ) → List (List ℕ) → List UnknownFields
unknown_among place known [] = []
unknown_among place known (key ∷ keys) = if is_one_of key known then unknown_among place known keys else unknown_of place known key ∷ unknown_among place known keys

-- the keys of a table
abbrev pub keys_of : Members → List (List ℕ)
keys_of no_members = []
keys_of (member key value members) = key ∷ keys_of members

-- a value that is no table has none
abbrev pub keys_in : Option Members → List (List ℕ)
keys_in None = []
keys_in (Some members) = keys_of members

-- those of a list of tables, counted from a number on
abbrev pub unknown_from : (ℕ → TableName) → List (List ℕ) → ℕ → Items → List UnknownFields
unknown_from place known number no_items = []
unknown_from place known number (item value values) = unknown_among (place number) known (keys_in (as_table value)) ++ unknown_from place known (suc number) values

-- the known keys of a PMU: a merger's has one
abbrev pub known_of_pmu : Members → List (List ℕ)
known_of_pmu members = if is_some (get_member (codes "node") members) then merged_pmu_keys else pmu_keys

-- the kind of table that it is so
abbrev pub kind_of_pmu : Members → KeyTable
kind_of_pmu members = if is_some (get_member (codes "node") members) then MergedPmu else NodePmu

-- those of a document: at the top, then in the tables of the nodes, then in those of the PMUs
abbrev pub unknown_in : Members → List UnknownFields
unknown_in members =
    unknown_among Top top_keys (keys_of members)
    ++ (unknown_from Node merged_node_keys 1 (items_at (codes "node") members)
    ++ unknown_from Pmu (known_of_pmu members) 1 (items_at (codes "pmu") members))
