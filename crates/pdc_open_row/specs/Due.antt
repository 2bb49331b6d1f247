-- When an open instant is due.
use Rattle.std.specs.Prelude.{ℕ, Bool, true, false, ◌&&◌, ◌||◌, not, nat_le, List, [], ◌∷◌, Option, Some, None}
use Rattle.pdc_open_row.specs.Views.{OpenRowView}
use Rattle.pdc_open_row.specs.declared.wait_rule.WaitRule.{WaitRule}
use Rattle.pdc_open_row.specs.declared.wait_rule.WaitRule.TheVariants.{Ticks, Until}

-- each required stream was taken
abbrev pub all_taken : List Bool → List Bool → Bool
all_taken [] taken = true
all_taken (required ∷ rest) [] = true
all_taken (required ∷ rest) (taken ∷ others) = (not required || taken) && all_taken rest others

-- the instant is at most the limit; where there is no limit, none is
abbrev pub is_at_most : Option ℕ → ℕ → Bool
is_at_most None instant = false
is_at_most (Some limit) instant = nat_le instant limit

-- The wait of an instant is over: by its age, this tick counted, or by the limit of the tick. Under a wait of 2 ticks it is
-- over at the second tick after the first take; under a limit of 7 that of 7 is, and that of 8 is not.
abbrev pub is_over : WaitRule → (age instant : ℕ) → Bool
is_over (Ticks wait) age instant = nat_le wait age
is_over (Until limit) age instant = is_at_most limit instant

-- An open instant is due where every required stream was taken, or its wait is over.
abbrev pub is_due : List Bool → WaitRule → OpenRowView → Bool
is_due required rule row = all_taken required row.taken || is_over rule row.age row.instant
