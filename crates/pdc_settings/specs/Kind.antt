-- Whose settings a text is.
use Rattle.std.specs.Prelude.{◌≡◌, ℕ, List, Bool, None, codes, is_some}
use Rattle.toml.specs.Data.{Members, get_member}
use Rattle.toml.specs.Parse.{parse_document}
use Rattle.pdc_settings.specs.declared.fault.SettingsFault.{SettingsFault}
use Rattle.pdc_settings.specs.declared.fault.SettingsFault.TheVariants.{Toml, Range, DoubledId, NoMemory}

-- the settings are a merger's, which they are by the key `node`
abbrev pub is_merger : Members → Bool
is_merger members = is_some (get_member (codes "node") members)

-- the fault says why a text is no document
abbrev pub IsNoDocument : List ℕ → SettingsFault → Type 0
IsNoDocument text Toml = parse_document text ≡ None
IsNoDocument text (Range wanted) = ⊥
IsNoDocument text DoubledId = ⊥
IsNoDocument text NoMemory = Unit {0}
