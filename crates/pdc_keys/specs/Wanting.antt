-- Who answered want of memory, where no request of this crate's own was refused.
use Rattle.std.specs.Prelude.{◌⊎◌, ℕ, List}
use Rattle.pdc_memory.specs.Asking.{SomeWasRefused}

-- In this call `strsim` answered want of memory, asked for the edits between these names. Its contract says no more of why. No proof but that
-- of the function that asks it can say so.
unfoldable pub EditsWanted : (key name : List ℕ) → Type 0
EditsWanted key name = Unit {0}

-- for some names it is so
abbrev pub SomeEditsWanted : Type 0
SomeEditsWanted = ∥ ((key : List ℕ) × (name : List ℕ) × EditsWanted key name) ∥₁

-- why keys are not listed: a request was refused, or `strsim` answered so
abbrev pub IsWantOfKeys : Type 0
IsWantOfKeys = SomeWasRefused ⊎ SomeEditsWanted
