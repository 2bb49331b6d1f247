-- What a run of the receivers, the aligner and the sender did.
use Rattle.std.specs.Prelude.{◌≡◌, ℕ, ◌+◌, List, [], ◌++◌, length, map, sum, IfOk, IsErrOf, OnOk, Result, vec_len}
use Rattle.pdc_aligner.specs.Sequence.{Rises, instants_of}
use Rattle.pdc_aligner.specs.Turns.{HasGiven}
use Rattle.pdc_aligner.specs.Device.{IsDown, Standing}
use Rattle.pdc_hub.specs.declared.fault.HubFault.{HubFault}
use Rattle.pdc_hub.specs.declared.fault.HubFault.TheVariants.{Device, SinkFault}
use Rattle.pdc_pipe.specs.declared.message.Message.{Message}
use Rattle.pdc_pipe.specs.Sequence.{bytes_of}
use Rattle.pdc_ports.specs.Failures.{HasRisen}
use Rattle.pdc_threads.specs.declared.receivers.Counted.{Counted}
use Rattle.pdc_threads.specs.declared.totals.Totals.{Totals}

-- So many were taken and refused by these receivers together.
abbrev pub AreSumsOf : (taken refused : ℕ) → List Counted → Type 0
AreSumsOf taken refused receivers = (taken ≡ sum (map (λ c. c.taken) receivers)) × (refused ≡ sum (map (λ c. c.refused) receivers))

-- The totals are the sums over the receivers.
abbrev pub IsSummed : Result Totals HubFault → Type 0
IsSummed outcome = IfOk outcome (λ t. AreSumsOf t.taken t.refused t.receivers.items)

-- The instants of what was put strictly rise, lie above `low` and are at most `high`. What the sink took are the first of the frames
-- that were put; all of them where the run was Ok, and then as many rows were published as it tells.
pub record HasRun (Took : List (List ℕ) → Type 0) (low high : ℕ) (outcome : Result Totals HubFault) : Type 0 where
  pub put : List Message
  pub given : List (List ℕ)
  pub rest : List (List ℕ)
  pub took : Took given
  pub first : bytes_of put ≡ given ++ rest
  pub rising : Rises low (instants_of put) high
  pub whole : OnOk outcome (rest ≡ [])
  pub published : IfOk outcome (λ totals. totals.published ≡ length (instants_of put))

-- From this state on a ticker gave these instants, in order.
abbrev pub GivesFrom : {I : Type 0} (gave : I → List ℕ → Type 0) (ticker : I) → List ℕ → Type 0
GivesFrom {I} gave ticker nows = (after : I) × HasGiven gave ticker after nows

-- Where the run ended by the sink's fault, the sink's failures rose from the one number to the other.
abbrev pub IsCausedBySink : (outcome : Result Totals HubFault) (before after : ℕ) → Type 0
IsCausedBySink outcome before after = IsErrOf outcome SinkFault → HasRisen before after

-- Where the run ended by the mark's device, a fault stood on it before, or it failed since.
abbrev pub IsCausedByMark : (outcome : Result Totals HubFault) (before after : Standing) → Type 0
IsCausedByMark outcome before after = IsErrOf outcome Device → IsDown before after

-- Where the run was Ok, there is an entry for each of so many sources.
abbrev pub HasEach : (outcome : Result Totals HubFault) (sources : ℕ) → Type 0
HasEach outcome sources = IfOk outcome (λ t. vec_len t.receivers ≡ sources)

-- Where the run was Ok, the rows that were popped between the one number and the other are as many as it published.
abbrev pub ArePublished : (outcome : Result Totals HubFault) (before after : ℕ) → Type 0
ArePublished outcome before after = IfOk outcome (λ t. after ≡ before + t.published)
