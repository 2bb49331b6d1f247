-- The life of a log, and what stands in it.
use Rattle.std.specs.Prelude.{◌≡◌, ℕ, suc, ◌==◌, if◌then◌else◌, List, [], ◌∷◌, ◌++◌, Option, Some, length}
use mathlib.Core.List.{IsPrefix}
use Rattle.pdc_life.specs.Answer.{ReadStep, Rules, ToArrive, ToPop, ToTick, life_from}
use Rattle.pdc_life.specs.Given.{Given}
use Rattle.pdc_life.specs.Life.{Arrive, Entry, Pop, Tick}
use Rattle.pdc_life.specs.declared.outcome.Outcome.{Outcome}

-- the life of these steps, the first of them first
abbrev pub life_of : Rules → Given → List ReadStep → List Entry
life_of rules g log = life_from rules g [] log

-- what came for a stream and how it was answered, in order
abbrev pub brought : (s : ℕ) → List Entry → List (List ℕ × Outcome)
brought s [] = []
brought s (Arrive t bytes arrival answer ∷ E) = if t == s then brought s E ++ (bytes, answer.outcome) ∷ [] else brought s E
brought s (Tick now counts answer ∷ E) = brought s E
brought s (Pop row ∷ E) = brought s E

-- how many of these steps came
abbrev pub came_in : List ReadStep → ℕ
came_in [] = 0
came_in (ToArrive s bytes arrival ∷ steps) = suc (came_in steps)
came_in (ToTick now counts ∷ steps) = came_in steps
came_in (ToPop ∷ steps) = came_in steps

-- how many are ticks and pops, the steps of who aligns
abbrev pub turned_in : List ReadStep → ℕ
turned_in [] = 0
turned_in (ToArrive s bytes arrival ∷ steps) = turned_in steps
turned_in (ToTick now counts ∷ steps) = suc (turned_in steps)
turned_in (ToPop ∷ steps) = suc (turned_in steps)

-- the ticks among these steps, in order: the instant that was now, and for each column the count up to which a section may be adopted
abbrev pub ticks_of : List ReadStep → List (ℕ × List ℕ)
ticks_of [] = []
ticks_of (ToArrive s bytes arrival ∷ steps) = ticks_of steps
ticks_of (ToTick now counts ∷ steps) = (now, counts) ∷ ticks_of steps
ticks_of (ToPop ∷ steps) = ticks_of steps

-- This is true of what is named and of the life of the log, of which so much was seen.
abbrev pub InTheLife : (rules : Rules) (named : Option Given) (seen : List ReadStep) (Fact : Given → List Entry → Type 0) → Type 0
InTheLife rules named seen Fact = ∥ ((g : Given) × (named ≡ Some g) × Fact g (life_of rules g seen)) ∥₁

-- Behind all that its caller had seen, and what others added since, this step was added, with this number; what is told of it is true of the
-- life before it. The caller has seen it.
pub record HasAdded (rules : Rules) (named : Option Given) (step : ReadStep) (before after : List ReadStep) (number : ℕ) (Told : Given → List Entry → Type 0) : Type 0 where
  pub middle : List ReadStep
  pub later : IsPrefix before middle
  pub added : after ≡ middle ++ step ∷ []
  pub numbered : number ≡ length middle
  pub told : InTheLife rules named middle Told

-- So it was added by who aligns: no tick and no pop came between.
pub record HasTurned (rules : Rules) (named : Option Given) (step : ReadStep) (before after : List ReadStep) (number : ℕ) (Told : Given → List Entry → Type 0) : Type 0 where
  pub added : HasAdded rules named step before after number Told
  pub alone : turned_in added.middle ≡ turned_in before

-- Who aligns has seen what was added since, in which no tick and no pop is.
pub record HasLooked (before after : List ReadStep) : Type 0 where
  pub later : IsPrefix before after
  pub alone : turned_in after ≡ turned_in before
