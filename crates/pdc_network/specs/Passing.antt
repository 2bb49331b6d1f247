-- What a limit of configuration counts lets pass of what a source says.
use Rattle.std.specs.Prelude.{◌≡◌, ◌⊎◌, ℕ, List, [], ◌∷◌, Option, Some}
use Rattle.std.specs.List.{flat_map}
use Rattle.pdc_ports.specs.Heard.{Heard, Gave}
use Rattle.pdc_network.specs.CountLimit.{IsAbove}
use Rattle.pdc_network.specs.Received.{unless_idle}

-- A configuration with a count above the most, where there is a most, is left out.
abbrev pub IsLeftOut : (most : Option ℕ) → Heard → Type 0
IsLeftOut (Some most) (Gave bytes) = IsAbove most bytes
IsLeftOut _ _ = ⊥

-- The second list is the first one without what is left out, in its order.
abbrev pub AreKept : (most : Option ℕ) → List Heard → List Heard → Type 0
AreKept most [] kept = kept ≡ []
AreKept most (one ∷ all) kept = (IsLeftOut most one × AreKept most all kept)
    ⊎ ((IsLeftOut most one → ⊥) × (rest : List Heard) × (kept ≡ one ∷ rest) × AreKept most all rest)

-- What was heard is, but for pauses, all that was said below and is not left out.
pub record HasPassed (told : List Heard → Type 0) (most : Option ℕ) (heard : List Heard) : Type 0 where
  pub all : List Heard
  pub are_all : told all
  pub kept : AreKept most (flat_map unless_idle all) (flat_map unless_idle heard)
