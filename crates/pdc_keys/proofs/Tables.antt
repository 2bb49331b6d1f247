-- The keys of a table.
use Rattle.std.proofs.Common.{◌≡◌, List, [], ◌∷◌, map, refl, ap}
use Rattle.std.specs.Prelude.{ℕ, Bool, true, false, if◌then◌else◌, String, string_bytes}
use Rattle.std.specs.declared.alloc.Global.{Global}
use Rattle.toml.specs.View.{members_view}
use Rattle.toml.specs.declared.value.Value.{Value}
use Rattle.pdc_keys.specs.Table.{names_in}
use Rattle.pdc_keys.specs.Unknown.{keys_of}
use Rattle.pdc_keys.specs.declared.owner.KeyTable.TheVariants.{MergedPmu, NodePmu}
use Rattle.pdc_keys.specs.declared.wanted.Wanted.{Wanted}

-- the keys of a map's entries are those of the document
pub keys-seen : (entries : List (String Global × Value)) → map string_bytes (map (λ (e : String Global × Value). e.0) entries) ≡ keys_of (members_view entries)
keys-seen [] = refl
keys-seen (e ∷ entries) = ap (λ names. string_bytes e.0 ∷ names) (keys-seen entries)

-- the names of the kind of table that is chosen are those that are chosen
pub names_chosen : (merged : Bool) (keys : List Wanted) (ours theirs : List (List ℕ)) → names_in MergedPmu keys ≡ theirs → names_in NodePmu keys ≡ ours
    → names_in (if merged then MergedPmu else NodePmu) keys ≡ (if merged then theirs else ours)
names_chosen true keys ours theirs its own = its
names_chosen false keys ours theirs its own = own
