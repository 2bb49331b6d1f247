-- Who answered want of memory, where settings are not read for it.
use Rattle.std.specs.Prelude.{◌⊎◌, ℕ, List}
use Rattle.toml.specs.Errors.{IsBlank}
use Rattle.pdc_keys.specs.pdc_memory.Asking.{SomeWasRefused}

-- In this call `toml` answered want of memory, asked for the document of this text. No proof but that of the function that asks it can say
-- so.
unfoldable pub TomlWanted : (text : List ℕ) → Type 0
TomlWanted text = Unit {0}

-- The same, with all that its contract says of it: the text is more than blanks and comments.
abbrev pub IsTomlWant : (text : List ℕ) → Type 0
IsTomlWant text = TomlWanted text × (IsBlank text → ⊥)

-- why a text is not read for want of memory: `toml` answered so, or a request was refused
abbrev pub IsWant : (text : List ℕ) → Type 0
IsWant text = IsTomlWant text ⊎ SomeWasRefused
