-- What a delivery adds to the caller's shares.
use Rattle.std.specs.Prelude.{◌≡◌, ℕ, ◌+◌, ◌-◌, ◌^◌, ◌<◌, Bool, ◌||◌, nat_le}
use Rattle.pdc_core.specs.Step.{Counts}
use Rattle.pdc_life.specs.declared.outcome.Outcome.{Outcome}
use Rattle.pdc_life.specs.declared.outcome.Outcome.TheVariants.{Taken, Candidate, Known, Refused}
use Rattle.pdc_hub.specs.Cut.{Cut}
use Rattle.pdc_hub.specs.declared.shares.Shares.{Shares}

abbrev pub taken_by : Outcome → ℕ
taken_by Taken = 1
taken_by _ = 0

abbrev pub refused_by : Outcome → ℕ
refused_by (Refused _) = 1
refused_by _ = 0

-- a configuration that is new, or held already
abbrev pub configured_by : Outcome → ℕ
configured_by Candidate = 1
configured_by Known = 1
configured_by _ = 0

-- how many configurations were new or held already
abbrev pub configurations : Counts → ℕ
configurations counts = counts.candidate + counts.known

-- the total is at the greatest value of a counter
abbrev pub is_at_greatest : ℕ → Bool
is_at_greatest total = nat_le (2 ^ 64 - 1) total

-- one of the three totals is
abbrev pub is_used_up : (taken refused configured : ℕ) → Bool
is_used_up taken refused configured = is_at_greatest taken || (is_at_greatest refused || is_at_greatest configured)

-- The shares are one part of each ledger;
abbrev pub AreOnePart : {N : Type 0} → Shares N → Type 0
AreOnePart shares = (shares.taken.parts ≡ 1) × (shares.refused.parts ≡ 1) × (shares.configured.parts ≡ 1)

-- some parts;
abbrev pub AreSomeParts : {N : Type 0} → Shares N → Type 0
AreSomeParts shares = (0 < shares.taken.parts) × (0 < shares.refused.parts) × (0 < shares.configured.parts)

-- all parts of these ledgers.
abbrev pub AreAllParts : {N : Type 0} → Shares N → (taken refused configured : Cut) → Type 0
AreAllParts shares taken refused configured = (shares.taken.parts ≡ taken.parts) × (shares.refused.parts ≡ refused.parts) × (shares.configured.parts ≡ configured.parts)

-- They have counted nothing;
abbrev pub HaveCountedNone : {N : Type 0} → Shares N → Type 0
HaveCountedNone shares = (shares.taken.amount ≡ 0) × (shares.refused.amount ≡ 0) × (shares.configured.amount ≡ 0)

-- what these counters say;
abbrev pub HaveCountedAs : {N : Type 0} → Shares N → Counts → Type 0
HaveCountedAs shares counts = (counts.taken ≡ shares.taken.amount) × (counts.refused ≡ shares.refused.amount) × (configurations counts ≡ shares.configured.amount)

-- from the one to the other, one answer more.
abbrev pub HaveCountedOne : {N : Type 0} → (old new : Shares N) → Outcome → Type 0
HaveCountedOne old new outcome =
    (new.taken.amount ≡ old.taken.amount + taken_by outcome) × (new.refused.amount ≡ old.refused.amount + refused_by outcome)
    × (new.configured.amount ≡ old.configured.amount + configured_by outcome)

-- how much they have counted together
abbrev pub sum_of : {N : Type 0} → Shares N → ℕ
sum_of shares = (shares.taken.amount + shares.refused.amount) + shares.configured.amount

-- The shares are as many parts as they were, and they count what they counted.
abbrev pub HasSameParts : {N : Type 0} → (old new : Shares N) → Type 0
HasSameParts old new = (new.taken.parts ≡ old.taken.parts) × (new.refused.parts ≡ old.refused.parts) × (new.configured.parts ≡ old.configured.parts)

abbrev pub HasSameAmounts : {N : Type 0} → (old new : Shares N) → Type 0
HasSameAmounts old new = (new.taken.amount ≡ old.taken.amount) × (new.refused.amount ≡ old.refused.amount) × (new.configured.amount ≡ old.configured.amount)

-- Nothing was counted, nor seen.
abbrev pub AreAsBefore : {N : Type 0} → (old new : Shares N) → Type 0
AreAsBefore old new = HasSameAmounts old new × (new.front ≡ old.front)
