-- The counters of a life, and what a core shows of them.
use Rattle.std.specs.Prelude.{◌-◌, ◌^◌}
use Rattle.pdc_life.specs.Names.{Bool, false, filter, length, List, min, true, ℕ}
use Rattle.pdc_life.specs.Life.{Entry, Arrive, is_candidate, is_taken}
use Rattle.pdc_life.specs.declared.outcome.Outcome.{Outcome}
use Rattle.pdc_life.specs.declared.outcome.Outcome.TheVariants.{Known, Refused}
use Rattle.pdc_life.specs.declared.outcome.Refusal.{Refusal}

abbrev pub is_known : Outcome → Bool
is_known Known = true
is_known _ = false

abbrev pub is_refused : Outcome → Bool
is_refused (Refused refusal) = true
is_refused _ = false

abbrev pub is_answered : (Outcome → Bool) → Entry → Bool
is_answered matches (Arrive stream bytes arrival answer) = matches answer.outcome
is_answered matches e = false

-- How many arrivals of the life were answered so: a number without bound.
abbrev pub count_answers : (Outcome → Bool) → List Entry → ℕ
count_answers matches E = length (filter (is_answered matches) E)

-- What a core shows of it: a number of 64 bits, which stays at its greatest.
abbrev pub shown : ℕ → ℕ
shown count = min count (2 ^ 64 - 1)

-- what a core shows of all answers of a life; that the change numbers are used up is no answer to an arrival, and not counted
pub record CountsShown : Type 0 where
  pub taken : ℕ
  pub candidate : ℕ
  pub known : ℕ
  pub refused : ℕ

abbrev pub counts_of : List Entry → CountsShown
counts_of E = record {
  taken = shown (count_answers is_taken E);
  candidate = shown (count_answers is_candidate E);
  known = shown (count_answers is_known E);
  refused = shown (count_answers is_refused E);
}

-- and of the arrivals that were refused for some cause
abbrev pub is_refused_as : (Refusal → Bool) → Outcome → Bool
is_refused_as matches (Refused refusal) = matches refusal
is_refused_as matches _ = false

abbrev pub refused_as : (Refusal → Bool) → List Entry → ℕ
refused_as matches E = shown (count_answers (is_refused_as matches) E)
