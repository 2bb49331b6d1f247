-- A run that was not begun, and one told by other names.
use Rattle.std.proofs.Common.{◌≡◌, ℕ, Bool, Err, List, Result, [], append-nil, arith, false, refl, rules, subst, sym}
use Rattle.pdc_aligner.specs.Device.{HasDevice, Standing}
use Rattle.pdc_hub.specs.Replay.{Sayings}
use Rattle.pdc_hub.specs.declared.fault.HubFault.{HubFault}
use Rattle.pdc_hub.specs.declared.fault.HubFault.TheVariants.{NoMemory}
use Rattle.pdc_life.specs.Answer.{Rules}
use Rattle.pdc_life.specs.Given.{Given}
use Rattle.pdc_mark.specs.declared.stored.Stored.{Stored}
use Rattle.pdc_row.specs.declared.output.Output.{Output}
use Rattle.pdc_pipe.specs.declared.senders.Ended.TheVariants.{AlignerGone}
use Rattle.pdc_ports.specs.Heard.{Heard}
use Rattle.pdc_service.specs.Ended.{begun_standing}
use Rattle.pdc_threads.specs.OneRun.{Found, IsOneRun, found_by}
use Rattle.pdc_threads.specs.Run.{GivesFrom}
use Rattle.pdc_threads.specs.declared.totals.Totals.{Totals}

-- no device was asked for anything
unharmed : (standing : Standing) → HasDevice {T = ℕ} standing standing (Err NoMemory)
unharmed standing = record { no_fewer = omega arith; caused = search rules; sound = tt }

-- Where nothing was run for want of memory, it is a life with no step, and with no receiver that is told of.
pub nothing_ran : {S : Type 0} (answers : Rules) (Says : Sayings) (g : Given) (output : Output) (rate every : ℕ) (told : S → List Heard → Type 0) (Gave : List ℕ → Type 0)
    {Took : List (List ℕ) → Type 0} (found : Found) (sources : List S) → Gave [] → Took [] → IsOneRun answers Says g output rate every told sources Gave Took found found (Err NoMemory)
nothing_ran answers Says g output rate every told Gave found sources gave took = record {
  steps = [];
  is_life = tt;
  complete = false;
  endings = [];
  received = tt;
  all_came = search rules;
  failed = [];
  ticked = gave;
  one_failed = omega arith;
  counts = λ column. omega arith;
  all_due = refl;
  given = [];
  rest = [];
  took = took;
  sent = refl;
  whole = tt;
  entries = tt;
  published = tt;
  aligned = Err NoMemory;
  device = unharmed found.standing;
  ended = AlignerGone;
  sink = search rules;
  told_fault = refl;
}

-- the same, of a ticker that gave nothing
pub nothing_run : {S I : Type 0} (answers : Rules) (Says : Sayings) (g : Given) (output : Output) (rate every : ℕ) (told : S → List Heard → Type 0) (gave : I → List ℕ → Type 0) (ticker : I)
    {Took : List (List ℕ) → Type 0} (found : Found) (sources : List S) → Took [] → IsOneRun answers Says g output rate every told sources (GivesFrom gave ticker) Took found found (Err NoMemory)
nothing_run answers Says g output rate every told gave ticker found sources took =
    nothing_ran answers Says g output rate every told (GivesFrom gave ticker) found sources (ticker, λ before g. subst (λ (ns : List ℕ). gave ticker ns) (sym (append-nil before)) g) took

-- It ran so, of the same by other names.
pub one_of : {S : Type 0} (answers : Rules) (stored known : Stored) (after : Found) {Says : Sayings} {g same : Given} {output spoken : Output} {rate paced every each : ℕ} {told : S → List Heard → Type 0} {Gave : List ℕ → Type 0} {Took : List (List ℕ) → Type 0}
    {standing begun : Standing} {failures : ℕ} {sources : List S} {outcome : Result Totals HubFault}
    → g ≡ same → output ≡ spoken → rate ≡ paced → every ≡ each → stored ≡ known → standing ≡ begun
    → ∥ IsOneRun answers Says g output rate every told sources Gave Took (found_by stored standing failures) after outcome ∥₁
    → ∥ IsOneRun answers Says same spoken paced each told sources Gave Took (found_by known begun failures) after outcome ∥₁
one_of answers stored known after a b c d e f h = rw (sym a, sym b, sym c, sym d, sym e, sym f) h

-- the standing of a publisher that has not failed yet
pub standing_is : {standing : Standing} {broken : Bool} {failures : ℕ} → standing.failed ≡ false → standing.broken ≡ broken → standing.failures ≡ failures → standing ≡ begun_standing broken failures
standing_is f b n = λ i. record { failed = f i; broken = b i; failures = n i }
