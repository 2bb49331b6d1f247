-- The deadlines of a ticker.
use Rattle.std.specs.Prelude.{ℕ}
use Rattle.pdc_ticking.specs.declared.deadlines.Deadlines.{Deadlines}

-- the first one
abbrev pub first_of : Deadlines → ℕ
first_of deadlines = deadlines.first

-- the span that so many parts lie in
abbrev pub span_of : Deadlines → ℕ
span_of deadlines = deadlines.span

-- into how many parts it is cut
abbrev pub parts_of : Deadlines → ℕ
parts_of deadlines = deadlines.parts
