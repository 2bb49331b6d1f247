-- The number of an answer in an entry.
use Rattle.std.specs.Prelude.{ℕ, ◌+◌}
use Rattle.pdc_life.specs.Causes.{number_of}
use Rattle.pdc_life.specs.declared.outcome.Outcome.{Outcome}
use Rattle.pdc_life.specs.declared.outcome.Outcome.TheVariants.{Taken, Candidate, Known, Refused}

-- a refusal has the number of its cause, behind the three other answers
abbrev pub answer_number : Outcome → ℕ
answer_number Taken = 0
answer_number Candidate = 1
answer_number Known = 2
answer_number (Refused refusal) = 3 + number_of refusal
