-- Frames that a sink takes, one after the other.
use Rattle.std.proofs.Common.{◌≡◌, ℕ, ◌+◌, ◌<◌, List, [], ◌∷◌, ◌++◌, refl, sym, subst, append_assoc, inr, arith}
use Rattle.std.specs.Prelude.{Bool, true, false, if◌then◌else◌, OnErr, OnOk, IfErr, Result, Ok, Err}
use Rattle.std.proofs.lemmas.List.{append-nil, map-append}
use Rattle.pdc_simulation.specs.Sent.{AreWords, Config, HasTaken, IsAll, IsConfigured, IsCutShort, IsFirstPart, IsFront, IsSimulated, IsUpTo, Out, Run, TakesMore, again, bytes_of, data_at, frames_of, is_due}
use Rattle.pdc_simulation.specs.Stopped.{IsCause, IsStopped}
use Rattle.pdc_simulation.specs.declared.fault.SimulationFault.{SimulationFault}
use Rattle.pdc_simulation.specs.declared.fault.SimulationFault.TheVariants.{Clock, Layout, Listener, NoMemory, NotSent, Place, Pmu}
use Rattle.pdc_simulation.proofs.Runs.{all_of, first_part, first_part_again, front_of, none_is_front, one_more}

pub takes_none : {K : Type 0} {took : K → K → List (List ℕ) → Type 0} {old new : K} → ((before : K) (given : List (List ℕ)) → took before old given → took before new given) → TakesMore took old new []
takes_none {K} {took} {old} {new} h = record { more = λ before given t. subst (took before new) (sym (append-nil given)) (h before given t) }

pub takes_still : {K : Type 0} (took : K → K → List (List ℕ) → Type 0) (s : K) → TakesMore took s s []
takes_still took s = takes_none {took = took} {old = s} {new = s} (λ before given t. t)

takes_both : {K : Type 0} {took : K → K → List (List ℕ) → Type 0} {old mid new : K} (first second : List (List ℕ)) → TakesMore took old mid first → TakesMore took mid new second → TakesMore took old new (first ++ second)
takes_both {K} {took} {old} {mid} {new} first second h k = record { more = λ before given t. subst (took before new) (append_assoc given first second) (k.more before (given ++ first) (h.more before given t)) }

again_frames : (run : Run) (config : List ℕ) (test : Bool) → (if test then config ∷ [] else []) ≡ frames_of run config (if test then Config ∷ [] else [])
again_frames run config true = refl
again_frames run config false = refl

two_parts : (run : Run) (config : List ℕ) (first second : List Out) → frames_of run config first ++ frames_of run config second ≡ frames_of run config (first ++ second)
two_parts run config first second = sym (map-append (bytes_of run config) first second)

-- the same where the test is another one with the same answer
pub where_due : {K : Type 0} {took : K → K → List (List ℕ) → Type 0} {old new : K} (test due : Bool) (config : List ℕ) → test ≡ due → TakesMore took old new (if test then config ∷ [] else [])
    → TakesMore took old new (if due then config ∷ [] else [])
where_due {K} {took} {old} {new} test due config e h = subst (λ (b : Bool). TakesMore took old new (if b then config ∷ [] else [])) e h

-- What was sent again, where it was due, and nothing else yet.
taken_again : {K : Type 0} {took : K → K → List (List ℕ) → Type 0} {old mid new : K} (run : Run) (number : ℕ) (config : List ℕ) (outs : List Out) → TakesMore took old mid (frames_of run config outs)
    → TakesMore took mid new (if is_due run.every run.rate number then config ∷ [] else []) → TakesMore took old new (frames_of run config (outs ++ again run number))
taken_again {K} {took} {old} {mid} {new} run number config outs h k =
    subst (TakesMore took old new) (two_parts run config outs (again run number))
    (takes_both (frames_of run config outs) (frames_of run config (again run number)) h (subst (TakesMore took mid new) (again_frames run config (is_due run.every run.rate number)) k))

pub taken_more : {K : Type 0} {took : K → K → List (List ℕ) → Type 0} {old mid next new : K} (run : Run) (number : ℕ) (config words : List ℕ) → HasTaken took run config (IsUpTo run number) old mid
    → TakesMore took mid next (if is_due run.every run.rate number then config ∷ [] else []) → AreWords run.is_grid number words
    → TakesMore took next new (frames_of run config (data_at run number words)) → HasTaken took run config (IsUpTo run (number + 1)) old new
taken_more {K} {took} {old} {mid} {next} {new} run number config words h k w d =
    let c : List Out = again run number in
    let e : (h.0 ++ c) ++ data_at run number words ≡ h.0 ++ (c ++ data_at run number words) = append_assoc h.0 c (data_at run number words) in (
      h.0 ++ (c ++ data_at run number words),
      one_more run number h.0 words h.1 w,
      subst (λ (outs : List Out). TakesMore took old new (frames_of run config outs)) e
          (subst (TakesMore took old new) (two_parts run config (h.0 ++ c) (data_at run number words))
          (takes_both (frames_of run config (h.0 ++ c)) (frames_of run config (data_at run number words)) (taken_again run number config h.0 h.2 k) d)),
    )

-- it ended before the instant with this number
pub cut_before : {K : Type 0} {took : K → K → List (List ℕ) → Type 0} {old mid new : K} (run : Run) (number : ℕ) (config : List ℕ) → number < run.count → HasTaken took run config (IsUpTo run number) old mid
    → TakesMore took mid new [] → HasTaken took run config (IsFirstPart run) old new
cut_before {K} {took} {old} {mid} {new} run number config lt h none =
    (h.0, first_part run number h.0 (omega (arith, lt)) h.1, subst (TakesMore took old new) (append-nil (frames_of run config h.0)) (takes_both (frames_of run config h.0) [] h.2 none))

-- it ended before the data of this number
pub cut_between : {K : Type 0} {took : K → K → List (List ℕ) → Type 0} {old mid next new : K} (run : Run) (number : ℕ) (config : List ℕ) → number < run.count → HasTaken took run config (IsUpTo run number) old mid
    → TakesMore took mid next (if is_due run.every run.rate number then config ∷ [] else []) → TakesMore took next new [] → HasTaken took run config (IsFirstPart run) old new
cut_between {K} {took} {old} {mid} {next} {new} run number config lt h k none =
    let outs : List Out = h.0 ++ again run number in (
      outs,
      first_part_again run number h.0 lt h.1,
      subst (TakesMore took old new) (append-nil (frames_of run config outs)) (takes_both (frames_of run config outs) [] (taken_again run number config h.0 h.2 k) none),
    )

-- ---- a whole run

pub taken_all : {K : Type 0} {took : K → K → List (List ℕ) → Type 0} {old mid new : K} (run : Run) (config : List ℕ) → TakesMore took old mid (config ∷ []) → HasTaken took run config (IsUpTo run run.count) mid new
    → HasTaken took run config (IsAll run) old new
taken_all run config first h = (Config ∷ h.0, all_of run h.0 h.1, takes_both (config ∷ []) (frames_of run config h.0) first h.2)

pub taken_front : {K : Type 0} {took : K → K → List (List ℕ) → Type 0} {old mid new : K} (run : Run) (config : List ℕ) → TakesMore took old mid (config ∷ []) → HasTaken took run config (IsFirstPart run) mid new
    → HasTaken took run config (IsFront run) old new
taken_front run config first h = (Config ∷ h.0, front_of run h.0 h.1, takes_both (config ∷ []) (frames_of run config h.0) first h.2)

pub taken_nothing : {K : Type 0} {took : K → K → List (List ℕ) → Type 0} {old new : K} (run : Run) (config : List ℕ) → TakesMore took old new [] → HasTaken took run config (IsFront run) old new
taken_nothing run config h = ([], none_is_front run, h)

pub simulated : {K : Type 0} {took : K → K → List (List ℕ) → Type 0} {old new : K} (run : Run) (config sent : List ℕ) → took old old [] → IsConfigured run config → sent ≡ config
    → HasTaken took run sent (IsAll run) old new → IsSimulated took run old new
simulated {K} {took} {old} {new} run config sent nothing c e h = (sent, subst (IsConfigured run) (sym e) c, h.0, h.1, h.2.more old [] nothing)

cut_short : {K : Type 0} {took : K → K → List (List ℕ) → Type 0} {old new : K} (run : Run) (config sent : List ℕ) → took old old [] → IsConfigured run config → sent ≡ config
    → HasTaken took run sent (IsFront run) old new → IsCutShort took run old new
cut_short {K} {took} {old} {new} run config sent nothing c e h = inr (sent, subst (IsConfigured run) (sym e) c, h.0, h.1, h.2.more old [] nothing)

-- ---- why it ended early

stopped_by : {K : Type 0} (took : K → K → List (List ℕ) → Type 0) (failures_of : K → ℕ) (old new : K) (run : Run) (fault : SimulationFault) → IsCutShort took run old new → IsCause fault (failures_of old) (failures_of new)
    → IsStopped took failures_of run old new fault
stopped_by took failures_of old new run (NotSent place) c h = (c, h)
stopped_by took failures_of old new run (Clock error) c h = (c, h)
stopped_by took failures_of old new run (Pmu fault) c h = (c, h)
stopped_by took failures_of old new run (Place number error) c h = (c, h)
stopped_by took failures_of old new run (Listener error) c h = (c, h)
stopped_by took failures_of old new run NoMemory c h = absurd h
stopped_by took failures_of old new run Layout c h = absurd h

pub stopped : {K : Type 0} (took : K → K → List (List ℕ) → Type 0) (failures_of : K → ℕ) (old new : K) (run : Run) (config sent : List ℕ) (fault : SimulationFault) → took old old [] → IsConfigured run config → sent ≡ config
    → HasTaken took run sent (IsFront run) old new → IsCause fault (failures_of old) (failures_of new) → IsStopped took failures_of run old new fault
stopped took failures_of old new run config sent fault nothing c e h cause = stopped_by took failures_of old new run fault (cut_short run config sent nothing c e h) cause

pub for_ok : {X Y P Q : Type 0} (r : Result X Y) → (P → Q) → OnOk r P → OnOk r Q
for_ok (Ok x) f p = f p
for_ok (Err y) f p = tt

pub for_err : {X Y : Type 0} {P Q : Type 0} (r : Result X Y) → (P → Q) → OnErr r P → OnErr r Q
for_err (Ok x) f p = tt
for_err (Err y) f p = f p

-- each clause of an answer that is an error
pub for_both : {X Y P : Type 0} {Q R : Y → Type 0} (r : Result X Y) → ((y : Y) → P → Q y → R y) → OnErr r P → IfErr r Q → IfErr r R
for_both (Ok x) f p q = tt
for_both (Err y) f p q = f y p q
