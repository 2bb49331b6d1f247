-- The shares of a run's ledgers.
use Rattle.std.specs.Prelude.{◌≡◌, ◌+◌, ◌<◌, ℕ}
use Rattle.pdc_hub.specs.Cut.{Cut}
use Rattle.pdc_hub.specs.declared.shares.Shares.{Shares}

-- Of each of the three totals these are so many parts;
abbrev pub AreParts : {N : Type 0} → ℕ → Shares N → Type 0
AreParts parts shares = (shares.taken.parts ≡ parts) × (shares.refused.parts ≡ parts) × (shares.configured.parts ≡ parts)

-- more than so many;
abbrev pub AreMoreThan : {N : Type 0} → ℕ → Shares N → Type 0
AreMoreThan parts shares = (parts < shares.taken.parts) × (parts < shares.refused.parts) × (parts < shares.configured.parts)

-- or all that there are but so many.
abbrev pub AreWholeBut : {N : Type 0} → ℕ → (taken refused configured : Cut) → Shares N → Type 0
AreWholeBut missing taken refused configured shares =
    (shares.taken.parts + missing ≡ taken.parts) × (shares.refused.parts + missing ≡ refused.parts) × (shares.configured.parts + missing ≡ configured.parts)

-- One part of each went from the first to another share.
abbrev pub LeaveOne : {N : Type 0} → (old new : Shares N) → Type 0
LeaveOne old new = (new.taken.parts + 1 ≡ old.taken.parts) × (new.refused.parts + 1 ≡ old.refused.parts) × (new.configured.parts + 1 ≡ old.configured.parts)

-- The parts of both are in the last,
abbrev pub HasPartsOf : {N : Type 0} → (old more new : Shares N) → Type 0
HasPartsOf old more new =
    (new.taken.parts ≡ old.taken.parts + more.taken.parts) × (new.refused.parts ≡ old.refused.parts + more.refused.parts) × (new.configured.parts ≡ old.configured.parts + more.configured.parts)

-- and what both have counted.
abbrev pub HasAmountsOf : {N : Type 0} → (old more new : Shares N) → Type 0
HasAmountsOf old more new =
    (new.taken.amount ≡ old.taken.amount + more.taken.amount) × (new.refused.amount ≡ old.refused.amount + more.refused.amount) × (new.configured.amount ≡ old.configured.amount + more.configured.amount)
