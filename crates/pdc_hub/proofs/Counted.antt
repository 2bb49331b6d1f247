-- What an answer adds to the counters.
use Rattle.std.proofs.Common.{arith, ◌≡◌, ℕ, ◌+◌, ◌-◌, ◌^◌, ◌<◌, ◌≤◌, false, ◌||◌, ap, ◌∙◌}
use Rattle.std.proofs.lemmas.Bool.{or_parts}
use Rattle.std.proofs.Math.Nat.{min-eq_left}
use Rattle.pdc_core.specs.Step.{Counts, after_answer, next}
use Rattle.pdc_life.specs.declared.outcome.Outcome.{Outcome}
use Rattle.pdc_life.specs.declared.outcome.Outcome.TheVariants.{Taken, Candidate, Known, Refused}
use Rattle.pdc_hub.specs.Counted.{configurations, configured_by, is_at_greatest, is_used_up, refused_by, taken_by}

-- below the greatest value a counter rises by one
raised : (n : ℕ) → n < 2 ^ 64 - 1 → next n ≡ n + 1
raised n l = min-eq_left (omega (arith, l))

pub taken_after : (outcome : Outcome) (c : Counts) → c.taken < 2 ^ 64 - 1 → (after_answer outcome c).taken ≡ c.taken + taken_by outcome
taken_after Taken c l = raised c.taken l
taken_after Candidate c l = omega arith
taken_after Known c l = omega arith
taken_after (Refused r) c l = omega arith

pub refused_after : (outcome : Outcome) (c : Counts) → c.refused < 2 ^ 64 - 1 → (after_answer outcome c).refused ≡ c.refused + refused_by outcome
refused_after Taken c l = omega arith
refused_after Candidate c l = omega arith
refused_after Known c l = omega arith
refused_after (Refused r) c l = raised c.refused l

pub configured_after : (outcome : Outcome) (c : Counts) → configurations c < 2 ^ 64 - 1 → configurations (after_answer outcome c) ≡ configurations c + configured_by outcome
configured_after Taken c l = omega arith
configured_after Candidate c l = ap (λ n. n + c.known) (raised c.candidate (omega (arith, l))) ∙ omega arith
configured_after Known c l = ap (λ n. c.candidate + n) (raised c.known (omega (arith, l))) ∙ omega arith
configured_after (Refused r) c l = omega arith

-- no total is at its greatest value
pub record IsFree (taken refused configured : ℕ) : Type 0 where
  pub taken_free : taken < 2 ^ 64 - 1
  pub refused_free : refused < 2 ^ 64 - 1
  pub configured_free : configured < 2 ^ 64 - 1

free : (n : ℕ) → is_at_greatest n ≡ false → n < 2 ^ 64 - 1
free n e = grind (arith, e)

pub is_free : (t f c : ℕ) → is_used_up t f c ≡ false → IsFree t f c
is_free t f c e =
    let a = or_parts (is_at_greatest t) (is_at_greatest f || is_at_greatest c) e in
    let b = or_parts (is_at_greatest f) (is_at_greatest c) a.1 in
    record { taken_free = free t a.0; refused_free = free f b.0; configured_free = free c b.1 }

-- a share below a total that is free stays below 2^64
pub stays_below : (outcome : Outcome) (by : Outcome → ℕ) (old new total : ℕ) → ((o : Outcome) → by o ≤ 1) → old ≤ total → total < 2 ^ 64 - 1 → new ≡ old + by outcome → new < 2 ^ 64
stays_below outcome by old new total one le free counted = omega (arith, le, free, counted, one outcome)

pub taken_once : (o : Outcome) → taken_by o ≤ 1
taken_once Taken = omega arith
taken_once Candidate = omega arith
taken_once Known = omega arith
taken_once (Refused r) = omega arith

pub refused_once : (o : Outcome) → refused_by o ≤ 1
refused_once Taken = omega arith
refused_once Candidate = omega arith
refused_once Known = omega arith
refused_once (Refused r) = omega arith
