-- The instants and the counts of the ticks of a run.
use Rattle.std.specs.Prelude.{◌≡◌, ℕ, ◌≤◌, Bool, true, List, [], ◌∷◌, ◌++◌, length, map, OnOk, Option, Result, if◌then◌else◌, slice_index}
use mathlib.Core.List.{IsPrefix}
use Rattle.pdc_hub.specs.declared.fault.HubFault.{HubFault}
use Rattle.pdc_life.specs.Answer.{ReadStep, Rules, waiting_counts}
use Rattle.pdc_life.specs.Given.{Given}
use Rattle.pdc_log.specs.Log.{HasLooked, InTheLife}

-- Between the one state and the other a ticker gave these instants, in order: whatever it had given before, then it had given these more.
abbrev pub HasGiven : {K : Type 0} (gave : K → List ℕ → Type 0) (old new : K) → List ℕ → Type 0
HasGiven gave old new nows = (before : List ℕ) → gave old before → gave new (before ++ nows)

-- Between them it gave none.
abbrev pub GivesNone : {K : Type 0} (gave : K → List ℕ → Type 0) (old new : K) → Type 0
GivesNone gave old new = (nows : List ℕ) → gave old nows → gave new nows

-- no count of these is greater than the other one of its column
abbrev pub NoneFalls : (before after : List ℕ) → Type 0
NoneFalls before after = (column : ℕ) → slice_index before column ≤ slice_index after column

-- No count falls from the first ones, over those that each tick was handed in turn, to the last.
abbrev pub NeverFall : (first : List ℕ) → List (ℕ × List ℕ) → (last : List ℕ) → Type 0
NeverFall first [] last = NoneFalls first last
NeverFall first (tick ∷ ticks) last = NoneFalls first tick.1 × NeverFall tick.1 ticks last

-- One tick was added, of this instant with these counts; or none was, where it failed.
pub record HasTickedOnce {T : Type 0} (now : ℕ) (counts : List ℕ) (before after : List (ℕ × List ℕ)) (result : Result T HubFault) : Type 0 where
  pub done : Bool
  pub added : after ≡ (if done then before ++ (now, counts) ∷ [] else before)
  pub whole : OnOk result (done ≡ true)

-- The ticker gave the instants of these ticks, in order, and of one more at most, which failed before it was a step. No count falls from
-- those that were stored at first, over those that the ticks were handed, to those that are stored in the end.
pub record HasTicked {T : Type 0} (Gave : List ℕ → Type 0) (first last : List ℕ) (ticks : List (ℕ × List ℕ)) (result : Result T HubFault) : Type 0 where
  pub failed : List ℕ
  pub given : Gave (map (λ t. t.0) ticks ++ failed)
  pub one_failed : length failed ≤ 1
  pub whole : OnOk result (failed ≡ [])
  pub stored : NeverFall first ticks last

-- Who aligns looked, and after it no count that waited then is above these.
abbrev pub HasCleared : Rules → Option Given → (before after : List ReadStep) (counts : List ℕ) → Type 0
HasCleared rules named before after counts =
    (seen : List ReadStep) × HasLooked before seen × IsPrefix seen after × InTheLife rules named seen (λ g E. NoneFalls (waiting_counts g E) counts)
