-- What a run tells of what was put.
use Rattle.std.specs.Prelude.{IfNone, None, OnErr}
use Rattle.std.proofs.Common.{arith, rules, ◌≡◌, ◌≤◌, ℕ, length, Option, Some, Result, Ok, Err, IfOk, OnOk, Bool, true, false, if◌then◌else◌, List, [], ◌∷◌, ◌++◌, map, refl, sym, ap, ◌∙◌, subst, append-nil, vec_len}
use Rattle.pdc_aligner.specs.Device.{HasDevice, Standing}
use Rattle.pdc_aligner.specs.Laid.{IsLaidBut}
use Rattle.pdc_aligner.specs.Sequence.{HasPutAll, Rises, instants_of}
use Rattle.pdc_aligner.specs.Turns.{HasGiven, HasTicked}
use Rattle.pdc_aligner.specs.declared.pace.Pace.{Pace}
use Rattle.pdc_aligner.proofs.Laying.{begins_laid, but_end, laid_but}
use Rattle.pdc_hub.specs.Replay.{Sayings}
use Rattle.pdc_hub.specs.declared.fault.HubFault.{HubFault}
use Rattle.pdc_hub.specs.declared.fault.HubFault.TheVariants.{NoMemory}
use Rattle.pdc_life.specs.Answer.{ReadStep, Rules}
use Rattle.pdc_life.specs.Given.{Given}
use Rattle.pdc_log.specs.Log.{InTheLife, life_of, ticks_of}
use Rattle.pdc_mark.specs.declared.stored.Stored.{Stored}
use Rattle.pdc_pipe.specs.HandedOn.{HasHandedOn, HasSinkCause}
use Rattle.pdc_pipe.specs.Sequence.{bytes_of}
use Rattle.pdc_pipe.specs.declared.message.Message.{Message}
use Rattle.pdc_pipe.specs.declared.message.Message.TheVariants.{End}
use Rattle.pdc_pipe.specs.declared.senders.Ended.{Ended}
use Rattle.pdc_pipe.specs.declared.senders.Ended.TheVariants.{AtEndMark, AlignerGone}
use Rattle.pdc_ports.specs.Heard.{Heard}
use Rattle.pdc_row.specs.declared.output.Output.{Output}
use Rattle.pdc_threads.specs.declared.receivers.Counted.{Counted}
use Rattle.pdc_threads.specs.declared.totals.Totals.{Totals}
use Rattle.pdc_threads.specs.Conducted.{HasConducted}
use Rattle.pdc_threads.specs.Ended.{Ending, fault_in, first_fault, first_of}
use Rattle.pdc_threads.specs.OneRun.{found_by}
use Rattle.pdc_threads.specs.Run.{ArePublished, GivesFrom, HasEach}
use Rattle.pdc_threads.specs.Wanted.{LackedRoom}

-- an Ok run handed all of it on
pub all_handed_on : {Took : List (List ℕ) → Type 0} (outcome : Result Totals HubFault) (put : List Message) (ended : Ended) (sent : HasHandedOn Took put ended) → OnOk outcome (ended ≡ AtEndMark) → OnOk outcome (sent.rest ≡ [])
all_handed_on (Ok totals) put ended sent at = (sent.whole at).0
all_handed_on (Err fault) put ended sent at = tt

-- and tells how many were published
pub all_published : (outcome : Result Totals HubFault) (aligned : Result ℕ HubFault) (count : ℕ) → IfOk outcome (λ totals. aligned ≡ Ok totals.published) → IfOk aligned (λ published. published ≡ count)
    → IfOk outcome (λ totals. totals.published ≡ count)
all_published (Ok totals) aligned count same is = subst (λ r. IfOk r (λ published. published ≡ count)) same is
all_published (Err fault) aligned count same is = tt

-- and as many were popped
pub all_popped : (outcome : Result Totals HubFault) (aligned : Result ℕ HubFault) (first popped : ℕ) (put : List Message) → IfOk outcome (λ totals. aligned ≡ Ok totals.published) → IfOk aligned (λ published. published ≡ length (instants_of put))
    → HasPutAll first popped [] put aligned → ArePublished outcome first popped
all_popped (Ok totals) aligned first popped put same is h =
    let n : totals.published ≡ length (instants_of put) = subst (λ r. IfOk r (λ published. published ≡ length (instants_of put))) same is in
    let all : HasPutAll {A = ℕ} first popped [] put (Ok totals.published) = subst (λ r. HasPutAll first popped [] put r) same h in
    omega (arith, n, all.all, all.whole)
all_popped (Err fault) aligned first popped put same is h = tt

-- the end mark, where it was put
abbrev pub end_mark : Bool → List Message
end_mark ended = if ended then End ∷ [] else []

-- which is no frame
none_sent : (ended : Bool) → bytes_of (end_mark ended) ≡ []
none_sent true = refl
none_sent false = refl

-- Where nothing was aligned, nothing was put but the end mark at most,
pub none_laid : (rules : Rules) (named : Option Given) (output : Output) (rate every : ℕ) (seen : List ReadStep) (ended : Bool) (put : List Message) → put ≡ end_mark ended
    → InTheLife rules named seen (λ g E. E ≡ []) → IsLaidBut rules named output rate every seen put
none_laid rules named output rate every seen ended put e begun =
    but_end rules named output rate every seen [] put (ap bytes_of e ∙ none_sent ended) (laid_but rules named output rate every seen [] (begins_laid rules named output rate every seen [] refl begun))

-- and the ticker was not asked.
pub none_ticked : {I T : Type 0} (gave : I → List ℕ → Type 0) (ticker : I) (counts : List ℕ) (fault : HubFault) (seen : List ReadStep) → seen ≡ [] → HasTicked {T = T} (GivesFrom gave ticker) counts counts (ticks_of seen) (Err fault)
none_ticked {T = T} gave ticker counts fault seen e = subst (λ (l : List ReadStep). HasTicked {T = T} (GivesFrom gave ticker) counts counts (ticks_of l) (Err fault)) (sym e) record {
  failed = [];
  given = (ticker, λ before g. subst (λ (ns : List ℕ). gave ticker ns) (sym (append-nil before)) g);
  one_failed = omega arith;
  whole = tt;
  stored = λ column. omega arith;
}

-- what it gave up to a state, it gave from the first
pub gives_from : {I T : Type 0} (gave : I → List ℕ → Type 0) (old new : I) (first last : List ℕ) (ticks : List (ℕ × List ℕ)) (r : Result T HubFault) → HasTicked (HasGiven gave old new) first last ticks r → HasTicked (GivesFrom gave old) first last ticks r
gives_from gave old new first last ticks r h = record { failed = h.failed; given = (new, h.given); one_failed = h.one_failed; whole = h.whole; stored = h.stored }

-- before the first step
pub begun_life : (rules : Rules) (named : Option Given) (seen : List ReadStep) → ((g : Given) × (named ≡ Some g)) → seen ≡ [] → InTheLife rules named seen (λ g E. E ≡ [])
begun_life rules named seen g e = ∣ (g.0, g.1, ap (life_of rules g.0) e) ∣₁

-- the end mark alone, or nothing
pub ended_or_not : (put after : List Message) (r : Bool) → put ≡ [] → (r ≡ true → after ≡ put ++ End ∷ []) → (r ≡ false → after ≡ put) → after ≡ end_mark r
ended_or_not put after true e h k = h refl ∙ ap (λ l. l ++ End ∷ []) e
ended_or_not put after false e h k = k refl ∙ e

-- an Ok run has an entry for each that was joined
pub all_each : (outcome : Result Totals HubFault) (receivers count : ℕ) (complete : Bool) → IfOk outcome (λ totals. (vec_len totals.receivers ≡ receivers) × (complete ≡ true)) → (complete ≡ true → receivers ≡ count) → HasEach outcome count
all_each (Ok totals) receivers count complete same h = same.0 ∙ h same.1
all_each (Err fault) receivers count complete same h = tt

pub all_complete : (outcome : Result Totals HubFault) (receivers : ℕ) (complete : Bool) → IfOk outcome (λ totals. (vec_len totals.receivers ≡ receivers) × (complete ≡ true)) → OnOk outcome (complete ≡ true)
all_complete (Ok totals) receivers complete same = same.1
all_complete (Err fault) receivers complete same = tt

-- and they are what the receivers counted
pub all_entries : (outcome : Result Totals HubFault) (receivers : List Counted) (count : ℕ) (endings : List Ending) (complete : Bool) → IfOk outcome (λ totals. (vec_len totals.receivers ≡ count) × (complete ≡ true))
    → IfOk outcome (λ totals. totals.receivers.items ≡ receivers) → (complete ≡ true → receivers ≡ map (λ e. e.counted) endings) → IfOk outcome (λ totals. totals.receivers.items ≡ map (λ e. e.counted) endings)
all_entries (Ok totals) receivers count endings complete same is h = is ∙ h same.1
all_entries (Err fault) receivers count endings complete same is h = tt

-- the fault that is told, of what the receivers ended by
pub told_of : (outcome : Result Totals HubFault) (endings : List Ending) (fault : Option HubFault) (complete : Bool) (aligned : Result ℕ HubFault) (sent : Ended) → first_of endings ≡ fault
    → fault_in outcome ≡ first_fault fault complete aligned sent → fault_in outcome ≡ first_fault (first_of endings) complete aligned sent
told_of outcome endings fault complete aligned sent same told = told ∙ ap (λ f. first_fault f complete aligned sent) (sym same)

pub none_put : (ended : Bool) → instants_of (end_mark ended) ≡ []
none_put true = refl
none_put false = refl

-- nothing was popped, and nothing was put but the end mark at most
pub none_popped : {A : Type 0} (popped : ℕ) (fault : HubFault) (ended : Bool) (put : List Message) → put ≡ end_mark ended → HasPutAll {A = A} popped popped [] put (Err fault)
none_popped popped fault ended put e = record { lost = 0; all = omega (arith, ap (λ ms. length (instants_of ms)) e, ap length (none_put ended)); one_at_most = omega arith; whole = tt }

-- no device was asked for anything
pub unharmed : (standing : Standing) → HasDevice {T = ℕ} standing standing (Err NoMemory)
unharmed standing = record { no_fewer = omega arith; caused = search rules; sound = tt }

-- what holds anyway holds where it is Ok
pub anyway : {T P : Type 0} (result : Result T HubFault) → P → OnOk result P
anyway (Ok value) p = p
anyway (Err fault) p = tt

-- Where nothing was handed on
pub nothing_sent : {Took : List (List ℕ) → Type 0} → Took [] → HasHandedOn Took [] AlignerGone
nothing_sent took = record { given = []; rest = []; took = took; first = refl; whole = search rules }

-- Where nothing was aligned for want of memory, it ran so, with no step and no receiver that is told of.
pub none_conducted : {S I : Type 0} (answers : Rules) (Says : Sayings) (named : Option Given) (told : S → List Heard → Type 0) (sources : List S) (pace : Pace) (gave : I → List ℕ → Type 0) (ticker : I)
    {Took : List (List ℕ) → Type 0} (output : Output) (lead last popped : ℕ) (stored : Stored) (standing : Standing) (failures more : ℕ) (put : List Message) (ended : Bool) (sent : Ended)
    → put ≡ end_mark ended → HasHandedOn Took put sent → HasSinkCause sent failures more → last ≤ stored.floor → LackedRoom
    → HasConducted answers Says named told sources pace (GivesFrom gave ticker) Took (record { output = output; lead = lead; last = last; popped = popped; found = found_by stored standing failures })
    (record { output = output; lead = lead; last = last; popped = popped; found = found_by stored standing more }) (Err NoMemory)
none_conducted answers Says named told sources pace gave ticker output lead last popped stored standing failures more put ended sent e t cause low lacked =
    let none : instants_of put ≡ [] = ap instants_of e ∙ none_put ended in record {
      totals = tt;
      lacked = λ e. lacked;
      each = tt;
      kept = (refl, refl);
      sink = search rules;
      mark = search rules;
      popped = tt;
      run = record {
        put = put;
        given = t.given;
        rest = t.rest;
        took = t.took;
        first = t.first;
        rising = subst (λ (ns : List ℕ). Rises last ns stored.floor) (sym none) low;
        whole = tt;
        published = tt;
      };
      one = λ g is. ∣ record {
        steps = [];
        is_life = tt;
        complete = false;
        endings = [];
        received = tt;
        all_came = search rules;
        failed = [];
        ticked = (ticker, λ before g. subst (λ (ns : List ℕ). gave ticker ns) (sym (append-nil before)) g);
        one_failed = omega arith;
        counts = λ column. omega arith;
        all_due = refl;
        given = t.given;
        rest = t.rest;
        took = t.took;
        sent = sym (ap bytes_of e ∙ none_sent ended) ∙ t.first;
        whole = tt;
        entries = tt;
        published = tt;
        aligned = Err NoMemory;
        device = unharmed standing;
        ended = sent;
        sink = cause;
        told_fault = refl;
      } ∣₁;
    }

-- what holds of a none holds where it is no some
pub none_of : {A : Type 0} (P : Type 0) (r : Option A) → ((x : A) → r ≡ Some x → ⊥) → IfNone r P → P
none_of P None n h = h
none_of P (Some x) n h = absurd (n x refl)

-- what holds on an error holds where it is no success
pub err_of : {A E : Type 0} (P : Type 0) (r : Result A E) → ((x : A) → r ≡ Ok x → ⊥) → OnErr r P → P
err_of P (Ok x) n h = absurd (n x refl)
err_of P (Err e) n h = h
