-- What calls to a hub need of the caller's shares.
use Rattle.std.specs.Prelude.{◌≡◌, ℕ, ◌<◌}
use Rattle.try_hub.specs.declared.two.Mine.{Mine}

-- each share has a part, and those of who pops have all
abbrev pub IsFit : {C N : Type 0} → Mine C N → (top turns : ℕ) → Type 0
IsFit mine top turns = (0 < mine.shares.taken.parts) × (0 < mine.shares.refused.parts) × (0 < mine.shares.configured.parts) × (mine.pops.top.parts ≡ top) × (0 < mine.pops.top.parts) × (mine.pops.turns.parts ≡ turns) × (0 < mine.pops.turns.parts)
