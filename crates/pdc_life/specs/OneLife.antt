-- Steps make one life.
use Rattle.std.specs.Prelude.{◌++◌, ◌∷◌, ◌≡◌}
use Rattle.pdc_life.specs.Lives.{[], AllByRecursion, Answer, answered, Arrival, Arrive, CoreKind, Entry, Given, IsLifeOf, IsReadStep, life_from, List, ReadsAs, ReadStep, Rules, rules_of, Says, SenderOf, Step, ℕ}
use Rattle.pdc_life.specs.Answer.{IsLife, steps_of}

-- Steps that are read and answered one after the other make a life.
abbrev pub StepsMakeLives : Type 0
StepsMakeLives =
    (kind : CoreKind) (g : Given) (E : List Entry) (steps : List ReadStep) →
    IsLifeOf kind g E → AllByRecursion (IsReadStep (Says kind)) steps → IsLifeOf kind g (life_from (rules_of kind) g E steps)

-- One step more is answered after those before it.
abbrev pub OneStepMore : Type 0
OneStepMore =
    (rules : Rules) (g : Given) (E : List Entry) (steps : List ReadStep) (step : ReadStep) →
    life_from rules g E (steps ++ step ∷ []) ≡ answered rules g (life_from rules g E steps) step ∷ life_from rules g E steps

-- What bytes say that arrived from a PMU, or from a node, is one thing: no two causes hold of them, none holds of what is taken, and
-- they are data or a configuration in one way.
abbrev pub ReadsOnce : Type 0
ReadsOnce =
    (kind : CoreKind) (s : ℕ) (sender : SenderOf kind) (bytes : List ℕ) (a b : Arrival) →
    ReadsAs kind s sender bytes a → ReadsAs kind s sender bytes b → a ≡ b

-- Two answers to the same bytes cannot both hold, nor can the bytes say two things: after one life, for one stream.
abbrev pub AnswersAreOne : Type 0
AnswersAreOne =
    (kind : CoreKind) (g : Given) (E : List Entry) (s : ℕ) (bytes : List ℕ) (r t : Arrival) (a b : Answer) →
    IsLifeOf kind g (Arrive s bytes r a ∷ E) → IsLifeOf kind g (Arrive s bytes t b ∷ E) → (r ≡ t) × (a ≡ b)

-- The entries are the life of these steps.
pub record HasSteps (kind : CoreKind) (g : Given) (steps : List Step) (E : List Entry) : Type 0 where
  pub life : IsLife (rules_of kind) (Says kind) g E
  pub same_steps : steps_of E ≡ steps

-- Steps have one life at most: what each is answered, which rows close and what is popped follows from them and from what
-- is given.
abbrev pub StepsHaveOneLife : Type 0
StepsHaveOneLife = (kind : CoreKind) (g : Given) (steps : List Step) (E F : List Entry) → HasSteps kind g steps E → HasSteps kind g steps F → E ≡ F
