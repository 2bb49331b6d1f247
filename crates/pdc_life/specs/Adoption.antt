-- What a tick adopts.
use Rattle.std.specs.Prelude.{◌-◌, ◌<◌, ◌^◌, ◌∷◌, ◌≡◌, ◌≤◌}
use Rattle.pdc_life.specs.Lives.{changes, cleared_count, count_for, Entry, Given, held_section, IsTicked, List, max, None, Option, section_in_force, SectionFields, Some, Tick, TickAnswer, ℕ}

-- its count is greater than the one in force, or the first
abbrev pub IsNewer : SectionFields → Option SectionFields → Type 0
IsNewer held None = Unit {0}
IsNewer held (Some in_force) = in_force.count < held.count

-- What is held of the column is newer than what is in force, and cleared, the tick's own counts included; and a change number is left.
pub record IsReady (g : Given) (E : List Entry) (counts : List ℕ) (c : ℕ) (held : SectionFields) : Type 0 where
  pub column : c < g.columns
  pub is_held : held_section g E c ≡ Some held
  pub newer : IsNewer held (section_in_force g E c)
  pub cleared : held.count ≤ max (cleared_count g E c) (count_for c counts)
  pub change : changes E < 2 ^ 32 - 1

-- After the tick it is in force.
abbrev pub ReadyIsAdopted : Type 0
ReadyIsAdopted =
    (g : Given) (E : List Entry) (now : ℕ) (counts : List ℕ) (answer : TickAnswer) (c : ℕ) (held : SectionFields) → IsTicked g (Tick now counts answer ∷ E) →
    IsReady g E counts c held → section_in_force g (Tick now counts answer ∷ E) c ≡ Some held
