-- Where sections come from, and which are held.
use Rattle.std.specs.Prelude.{◌++◌, ◌<◌, ◌∷◌, ◌≡◌, ◌≤◌}
use Rattle.pdc_life.specs.Lives.{[], AllByRecursion, Answer, Arrive, Candidate, Contains, count_for, Entry, filter, flat_map, Given, held_layout, held_section, HeldLayout, is_of_column, IsLifeOf, IsRun, IsSection, IsTicked, Layout, List, map, MergerSettings, nat_le, None, OfMerger, OfNode, Option, section_in_force, SectionFields, sections_for, Settings, Some, Stamp, ℕ}

-- What is held of a column is a section as a configuration spells it, and so is what is in force.
abbrev pub HeldIsSection : Type 0
HeldIsSection = (g : Given) (E : List Entry) (c : ℕ) (s : SectionFields) → IsRun g E → held_section g E c ≡ Some s → IsSection s

abbrev pub InForceIsSection : Type 0
InForceIsSection = (g : Given) (E : List Entry) (c : ℕ) (s : SectionFields) → IsRun g E → section_in_force g E c ≡ Some s → IsSection s

-- The section came for the column in this life, in a layout that was accepted, and not below the opening count.
pub record HasCome (g : Given) (E : List Entry) (c : ℕ) (s : SectionFields) : Type 0 where
  pub later : List Entry
  pub earlier : List Entry
  pub stream : ℕ
  pub bytes : List ℕ
  pub stamp : Option Stamp
  pub sections : List (ℕ × SectionFields)
  pub answer : Answer
  pub stands : E ≡ later ++ Arrive stream bytes (Layout stamp sections) answer ∷ earlier
  pub accepted : answer.outcome ≡ Candidate
  pub among : Contains sections (c, s)
  pub not_below : count_for c g.counts ≤ s.count

abbrev pub HeldHasCome : Type 0
HeldHasCome = (g : Given) (E : List Entry) (c : ℕ) (s : SectionFields) → held_section g E c ≡ Some s → HasCome g E c s

abbrev pub InForceHasCome : Type 0
InForceHasCome = (g : Given) (E : List Entry) (c : ℕ) (s : SectionFields) → section_in_force g E c ≡ Some s → HasCome g E c s

-- the section is of the greatest count of these, which came the newest first, and the first of that count to come
pub record IsFirstGreatest (sections : List SectionFields) (s : SectionFields) : Type 0 where
  pub newer : List SectionFields
  pub older : List SectionFields
  pub stands : sections ≡ newer ++ s ∷ older
  pub not_greater : AllByRecursion (λ (t : SectionFields). t.count ≤ s.count) newer
  pub lower : AllByRecursion (λ (t : SectionFields). t.count < s.count) older

-- Held is the greatest count of these, with the first section of it; none where there are none.
abbrev pub IsHeld : List SectionFields → Option SectionFields → Type 0
IsHeld sections None = sections ≡ []
IsHeld sections (Some s) = IsFirstGreatest sections s

-- Held of a column is the greatest of the sections that accepted layouts brought for it.
abbrev pub HeldIsGreatest : Type 0
HeldIsGreatest = (g : Given) (E : List Entry) (c : ℕ) → IsHeld (sections_for g E c) (held_section g E c)

-- the sections for a column that came and are not below its opening count, whatever they were answered, the newest first
abbrev pub came_at : ℕ → Entry → List SectionFields
came_at c (Arrive stream bytes (Layout stamp sections) answer) = map (λ (part : ℕ × SectionFields). part.1) (filter (is_of_column c) sections)
came_at c e = []

abbrev pub came_for : Given → List Entry → ℕ → List SectionFields
came_for g E c = filter (λ (s : SectionFields). nat_le (count_for c g.counts) s.count) (flat_map (came_at c) E)

-- At a node it is the greatest of all valid configurations that came: those that are refused are none greater.
abbrev pub NodeHoldsGreatest : Type 0
NodeHoldsGreatest = (settings : Settings) (g : Given) (E : List Entry) (c : ℕ) → IsLifeOf (OfNode settings) g E → IsHeld (came_for g E c) (held_section g E c)

-- At the merger a section of a held layout with the count in force of its column is the one in force.
abbrev pub SameCountSameSection : Type 0
SameCountSameSection =
    (settings : MergerSettings) (g : Given) (E : List Entry) (s c : ℕ) (layout : HeldLayout) (t u : SectionFields) →
    IsLifeOf (OfMerger settings) g E → held_layout E s ≡ Some layout → Contains layout.sections (c, t) →
    section_in_force g E c ≡ Some u → t.count ≡ u.count → t.bytes ≡ u.bytes

-- A column that has a section in force keeps one, and the count never falls.
pub record KeepsCount (g : Given) (E : List Entry) (c count : ℕ) : Type 0 where
  pub section : SectionFields
  pub in_force : section_in_force g E c ≡ Some section
  pub not_lower : count ≤ section.count

abbrev pub CountsNeverFall : Type 0
CountsNeverFall =
    (g : Given) (E F : List Entry) (c : ℕ) (s : SectionFields) → IsTicked g (F ++ E) → section_in_force g E c ≡ Some s → KeepsCount g (F ++ E) c s.count
