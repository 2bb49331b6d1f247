-- What a call adds to the one life, and how it is answered there.
use Rattle.std.specs.Prelude.{◌≡◌, ℕ, Bool, List, ◌++◌, Option}
use Rattle.pdc_life.specs.Answer.{ReadStep, Rules, ToArrive, ToPop, ToTick, pop_answer, tick_answer}
use Rattle.pdc_life.specs.Arrival.{Arrival}
use Rattle.pdc_life.specs.Given.{Given}
use Rattle.pdc_life.specs.Life.{TickAnswer, changes}
use Rattle.pdc_life.specs.Published.{layout_wire}
use Rattle.pdc_life.specs.declared.outcome.Outcome.{Outcome}
use Rattle.pdc_log.specs.Log.{HasAdded, HasTurned, InTheLife}
use Rattle.pdc_ports.specs.declared.numbered.Numbered.{Numbered}
use Rattle.pdc_hub.specs.Pops.{IsPop}
use Rattle.pdc_hub.specs.declared.pops.Pops.{Pops}
use Rattle.pdc_hub.specs.declared.shares.Shares.{Shares}

-- Between the one state of a receiver's shares and the other, what arrived for the stream was added, and answered so.
abbrev pub AddsArrival : {N : Type 0} → Rules → Option Given → (stream : ℕ) (bytes : List ℕ) → Arrival → (before after : Shares N) → Numbered Outcome → Type 0
AddsArrival rules named stream bytes arrival before after numbered =
    HasAdded rules named (ToArrive stream bytes arrival) before.front after.front numbered.step (λ g E. numbered.answer ≡ (rules g E stream arrival).outcome)

-- Between the one state of who pops and the other, a tick was, of whose answer in the life this is made,
abbrev pub AddsTick : {N M T : Type 0} → (make : (changed : ℕ) → TickAnswer → T) → Rules → Option Given → (now : ℕ) (counts : List ℕ) → (before after : Pops N M) → Numbered T → Type 0
AddsTick make rules named now counts before after numbered =
    HasTurned rules named (ToTick now counts) before.front after.front numbered.step (λ g E. numbered.answer ≡ make (changes E) (tick_answer g E now counts))

-- or a pop, whose row is kept then.
abbrev pub AddsPop : {N M : Type 0} → Rules → Option Given → (before after : Pops N M) → Numbered Bool → Type 0
AddsPop rules named before after numbered = HasTurned rules named ToPop before.front after.front numbered.step (λ g E. IsPop numbered.answer after.row.value (pop_answer E))

-- The layout that is in force in the life that was seen, dated with this second, was appended to these bytes.
abbrev pub IsLayoutBehind : Rules → Option Given → (seen : List ReadStep) → (second : ℕ) (before after : List ℕ) → Type 0
IsLayoutBehind rules named seen second before after = InTheLife rules named seen (λ g E. after ≡ before ++ layout_wire g E second)
