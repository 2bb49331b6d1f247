-- What is kept of its settings and its lives, on plain variables.
use Rattle.std.proofs.Common.{◌≡◌, ℕ, ◌<◌, ◌*◌, Bool, true, List, ◌∷◌, ◌++◌, [], Option, Some, refl, sym, ap, ◌∙◌, subst}
use Rattle.std.proofs.Math.Logic.{∥∥₁_elim, ∥∥₁_map, ∥∥₁_prop}
use Rattle.std.proofs.Props.{props}
use Rattle.pdc_core.specs.Step.{IsOf, is_allowed}
use Rattle.pdc_core.specs.declared.step.CoreStep.{CoreStep}
use Rattle.pdc_life.specs.Answer.{ReadStep, Rules, ToArrive}
use Rattle.pdc_life.specs.Arrival.{Arrival}
use Rattle.pdc_life.specs.Given.{Given}
use Rattle.pdc_life.specs.Life.{Entry}
use Rattle.pdc_row.specs.declared.due_row.DueRow.{DueRow}
use Rattle.pdc_frame.specs.declared.tag_limits.TheConstants.{SECONDS}
use Rattle.pdc_hub.specs.Kept.{IsKept, KeepsArrival}
use Rattle.pdc_hub.specs.Replay.{Follows, Lives, Records, Sayings, WasRead}
use Rattle.pdc_hub.proofs.Replays.{grown, here, told_in}

-- settings that do not change are still named
pub still : {S : Type 0} (named : Option S) (a b : S) → b ≡ a → ∥ named ≡ Some a ∥₁ → ∥ named ≡ Some b ∥₁
still named a b e h = ∥∥₁_map h (λ p. p ∙ ap Some (sym e))

-- what was read fits the settings that are named
pub suits : {S : Type 0} (Says : S → Sayings) (fits : S → ℕ → Arrival → Bool) (named : Option S) (stream : ℕ) (bytes : List ℕ) (arrival : Arrival) (now : S)
    → WasRead Says fits named stream bytes arrival → ∥ named ≡ Some now ∥₁ → fits now stream arrival ≡ true
suits Says fits named stream bytes arrival now r h =
    ∥∥₁_elim h (search props) (λ p. subst (λ s. fits s stream arrival ≡ true) (here named r.settings now r.are_named p) r.suits)

-- what arrives is replayed
pub arrived : {S : Type 0} (Says : S → Sayings) (fits : S → ℕ → Arrival → Bool) (settings : Option S) (rules : Rules) (named : Option Given)
    (Base State After : Lives) (b : S) (log after : List ReadStep) (steps more : List CoreStep) (stream : ℕ) (bytes : List ℕ) (arrival : Arrival)
    → WasRead Says fits settings stream bytes arrival → ∥ settings ≡ Some b ∥₁ → after ≡ log ++ ToArrive stream bytes arrival ∷ [] → KeepsArrival stream arrival steps more
    → (Says b stream bytes arrival → Follows rules State After (ToArrive stream bytes arrival))
    → ∥ Records rules (WasRead Says fits settings) named Base State log steps ∥₁ → ∥ Records rules (WasRead Says fits settings) named Base After after more ∥₁
arrived Says fits settings rules named Base State After b log after steps more stream bytes arrival r q a k follows h =
    ∥∥₁_elim q ∥∥₁_prop (λ (y : settings ≡ Some b). ∥∥₁_map h
    (grown rules (WasRead Says fits settings) named Base State After log after steps more k.step (ToArrive stream bytes arrival) a k.added
    (subst (λ (s : CoreStep). IsOf s (ToArrive stream bytes arrival)) (sym k.kept.is) (refl, sym k.kept.says)) r
    (follows (subst (λ s. Says s stream bytes arrival) (here settings r.settings b r.are_named y) r.says))))

-- and what is kept of it is allowed where it fits
pub is_allowed_kept : (fits : ℕ → Arrival → Bool) (stream : ℕ) (arrival : Arrival) (step : CoreStep) → IsKept stream arrival step → fits stream arrival ≡ true → is_allowed fits step ≡ true
is_allowed_kept fits stream arrival step k h = subst (λ (s : CoreStep). is_allowed fits s ≡ true) (sym k.is) (subst (λ (a : Arrival). fits stream a ≡ true) (sym k.says) h)

-- a row that is popped can be tagged at the rate that is named
pub tagged : (rules : Rules) (Says : Sayings) (named : Option Given) (Base State : Lives) (log : List ReadStep) (steps : List CoreStep) (row : DueRow)
    → ∥ Records rules Says named Base State log steps ∥₁
    → ((g : Given) (E : List Entry) → State g E → row.instant < SECONDS * g.output.rate)
    → (g : Given) → named ≡ Some g → row.instant < SECONDS * g.output.rate
tagged rules Says named Base State log steps row h next g is = ∥∥₁_elim h (search props)
    (λ x. told_in rules Says named Base State log steps (λ d E. row.instant < SECONDS * d.output.rate) next x g is)
