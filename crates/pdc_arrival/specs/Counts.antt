-- What a core keeps of the answers of a life.
use Rattle.std.specs.Prelude.{ℕ, ◌+◌, ◌==◌, Bool, List, map, slice_index_or, slice_set}
use Rattle.std.specs.List.{range_with_len}
use Rattle.pdc_life.specs.Causes.{number_of}
use Rattle.pdc_life.specs.declared.outcome.TheConstants.{CAUSES}
use Rattle.pdc_life.specs.Counts.{counts_of, refused_as, shown}
use Rattle.pdc_life.specs.Life.{Entry}
use Rattle.pdc_life.specs.declared.outcome.Outcome.{Outcome}
use Rattle.pdc_life.specs.declared.outcome.Outcome.TheVariants.{Taken, Candidate, Known, Refused}
use Rattle.pdc_life.specs.declared.outcome.Refusal.{Refusal}
use Rattle.pdc_arrival.specs.declared.counts.Counts.{Counts}

-- the refusal has the cause of this number
abbrev pub is_cause : ℕ → Refusal → Bool
is_cause number refusal = number_of refusal == number

-- What the counters show after a life: how many arrivals were taken, were candidates, were known and were refused, and how many
-- were refused by each cause.
abbrev pub counts_after : List Entry → Counts
counts_after E = record {
  taken = (counts_of E).taken;
  candidate = (counts_of E).candidate;
  known = (counts_of E).known;
  refused = (counts_of E).refused;
  causes = map (λ number. refused_as (is_cause number) E) (range_with_len 0 CAUSES);
}

-- one more, up to the greatest value
abbrev pub next : ℕ → ℕ
next count = shown (count + 1)

-- The counters after one answer more.
abbrev pub after_answer : Outcome → Counts → Counts
after_answer Taken counts = record counts { taken = next counts.taken }
after_answer Candidate counts = record counts { candidate = next counts.candidate }
after_answer Known counts = record counts { known = next counts.known }
after_answer (Refused refusal) counts = record counts {
  refused = next counts.refused;
  causes = slice_set counts.causes (number_of refusal) (next (slice_index_or counts.causes (number_of refusal) 0));
}
