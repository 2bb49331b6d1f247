-- The values at the keys of a settings text.
use Rattle.std.specs.Prelude.{ℕ, ℤ, pos, negsuc, List, ◌&&◌, nat_le, if◌then◌else◌, Option, Some, None, option_and_then, option_map}
use Rattle.toml.specs.Data.{Data, Items, no_items, Members, as_array, as_integer, get_member}

-- the items of a list that may be left out
abbrev pub items_or_none : Option Items → Items
items_or_none None = no_items
items_or_none (Some values) = values

-- the items of the list at a key, where there is one
abbrev pub items_at : List ℕ → Members → Items
items_at key members = items_or_none (option_and_then as_array (get_member key members))

-- the number that an integer is, where it lies from `least` to `most`
abbrev pub in_range : ℕ → ℕ → ℤ → Option ℕ
in_range least most (pos n) = if nat_le least n && nat_le n most then Some n else None
in_range least most (negsuc n) = None

-- the number that a value is, where there is one and it is an integer of the range
abbrev pub number_in : ℕ → ℕ → Option Data → Option ℕ
number_in least most value = option_and_then (in_range least most) (option_and_then as_integer value)

-- the number at a key that must stand
abbrev pub number_at : List ℕ → ℕ → ℕ → Members → Option ℕ
number_at key least most members = number_in least most (get_member key members)

-- the number of a value that may be left out, and is `usual` then
abbrev pub number_or : (usual least most : ℕ) → Option Data → Option ℕ
number_or usual least most None = Some usual
number_or usual least most (Some value) = number_in least most (Some value)

-- the number of a value that may be left out: none then
abbrev pub optional_number : (least most : ℕ) → Option Data → Option (Option ℕ)
optional_number least most None = Some None
optional_number least most (Some value) = option_map Some (number_in least most (Some value))
