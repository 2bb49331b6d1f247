-- Which open instants close.
use Rattle.std.specs.Prelude.{ℕ, ◌+◌, ◌-◌, ◌^◌, Bool, ◌||◌, not, min, nat_le, List, filter}
use Rattle.std.specs.List.{list_all}
use Rattle.pdc_open_row.specs.Due.{is_due}
use Rattle.pdc_open_row.specs.Views.{OpenRowView}
use Rattle.pdc_open_row.specs.declared.wait_rule.WaitRule.{WaitRule}

-- a counter of 64 bits stays at its greatest value
abbrev pub counter : ℕ → ℕ
counter n = min n (2 ^ 64 - 1)

-- the row after one more tick
abbrev pub aged : OpenRowView → OpenRowView
aged row = record row { age = counter (row.age + 1) }

-- An open instant closes where every open one up to it is due: of 1, not due, and 8, due, none closes; once 1 is due,
-- both do.
abbrev pub closes : List Bool → WaitRule → List OpenRowView → OpenRowView → Bool
closes required rule rows row =
    list_all (λ (r : OpenRowView). not (nat_le r.instant row.instant) || is_due required rule r) rows

-- the open instants that close, and those that stay open
abbrev pub closing : List Bool → WaitRule → List OpenRowView → List OpenRowView
closing required rule rows = filter (closes required rule rows) rows

abbrev pub staying : List Bool → WaitRule → List OpenRowView → List OpenRowView
staying required rule rows = filter (λ row. not (closes required rule rows row)) rows
