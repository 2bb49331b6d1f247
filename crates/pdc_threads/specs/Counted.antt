-- What the totals of a run are beside its shares.
use Rattle.std.specs.Prelude.{◌≡◌, IfOk}
use Rattle.pdc_hub.specs.Cut.{Cut}
use Rattle.pdc_hub.specs.declared.shares.Shares.{Shares}
use Rattle.pdc_threads.specs.declared.crew.Finished.{Finished}
use Rattle.pdc_threads.specs.declared.totals.Totals.{Totals}

-- The shares are whole, and have counted what the totals tell: who has them learns from the hub that these are the
-- counters of the core.
abbrev pub HasCounted : {N : Type 0} → (taken refused configured : Cut) → Shares N → Totals → Type 0
HasCounted taken refused configured shares totals =
    (shares.taken.parts ≡ taken.parts) × (shares.refused.parts ≡ refused.parts) × (shares.configured.parts ≡ configured.parts)
    × (shares.taken.amount ≡ totals.taken) × (shares.refused.amount ≡ totals.refused)

-- So it is where the run was Ok.
abbrev pub HasCountedAll : {N M K : Type 0} {m : _} (taken refused configured : Cut) → Finished N M K m → Type 0
HasCountedAll taken refused configured over = IfOk over.ran.outcome (HasCounted taken refused configured over.shares)
