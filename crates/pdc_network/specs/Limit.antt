-- The count above which configurations are left out.
use Rattle.std.specs.Prelude.{ℕ, Option, None, Some}
use Rattle.pdc_network.specs.declared.count_limit.CountLimit.{CountLimit}

abbrev pub count_of : {R : Type 0} → CountLimit R → ℕ
count_of limit = limit.most

-- the same, where there is a limit
abbrev pub most_of : {R : Type 0} → Option (CountLimit R) → Option ℕ
most_of None = None
most_of (Some limit) = Some (count_of limit)
