-- The first two of some numbers that are the same, with the keys at which they stand.
use Rattle.std.specs.Prelude.{◌==◌, List, [], ◌∷◌, if◌then◌else◌, Option, Some, None}
use Rattle.pdc_settings.specs.declared.doubled.Doubled.{Doubled}
use Rattle.pdc_settings.specs.declared.doubled.Numbered.{Numbered}

abbrev pub pair_of : Numbered → Numbered → Doubled
pair_of one other = record { first = one.key; second = other.key; number = one.number }

-- one with the first of the others that has its number
abbrev pub same_as : Numbered → List Numbered → Option Doubled
same_as one [] = None
same_as one (other ∷ others) = if other.number == one.number then Some (pair_of one other) else same_as one others

abbrev pub or_else : Option Doubled → Option Doubled → Option Doubled
or_else None other = other
or_else (Some doubled) other = Some doubled

-- the first that has its number again
abbrev pub doubled_in : List Numbered → Option Doubled
doubled_in [] = None
doubled_in (one ∷ others) = or_else (same_as one others) (doubled_in others)
