-- A core beside a base: the one is the replay of steps over the other, and both are of one life, whose steps are the log.
use Rattle.std.specs.Prelude.{◌≡◌, ℕ, Bool, true, List, [], ◌∷◌, ◌++◌, length, nat_le, if◌then◌else◌, Option, Some}
use mathlib.Core.List.{IsPrefix}
use Rattle.pdc_core.specs.Step.{IsOf}
use Rattle.pdc_core.specs.declared.step.CoreStep.{CoreStep}
use Rattle.pdc_life.specs.Answer.{IsReadStep, ReadStep, Rules, answered}
use Rattle.pdc_life.specs.Arrival.{Arrival}
use Rattle.pdc_life.specs.Given.{Given}
use Rattle.pdc_life.specs.Life.{Entry}
use Rattle.pdc_log.specs.Log.{life_of}

-- what bytes may say that come for a stream
abbrev pub Sayings : Type 1
Sayings = ℕ → List ℕ → Arrival → Type 0

-- which lives a value stands for
abbrev pub Lives : Type 1
Lives = Given → List Entry → Type 0

-- The steps of a core are these of a life, one by one.
abbrev pub AreOf : List CoreStep → List ReadStep → Type 0
AreOf [] [] = Unit {0}
AreOf (step ∷ steps) (read ∷ reads) = IsOf step read × AreOf steps reads
AreOf steps reads = ⊥

-- each was read from bytes that say it
abbrev pub AreSaid : Sayings → List ReadStep → Type 0
AreSaid Says [] = Unit {0}
AreSaid Says (read ∷ reads) = IsReadStep Says read × AreSaid Says reads

-- The state stands for the life of the log, which begins with what is named. The base stands for its life up to some step, and what was kept
-- are the steps from there on.
pub record Records (rules : Rules) (Says : Sayings) (named : Option Given) (Base State : Lives) (log : List ReadStep) (steps : List CoreStep) : Type 0 where
  pub given : Given
  pub is_named : named ≡ Some given
  pub earlier : List ReadStep
  pub reads : List ReadStep
  pub parts : log ≡ earlier ++ reads
  pub said : AreSaid Says log
  pub based : Base given (life_of rules given earlier)
  pub kept : AreOf steps reads
  pub reached : State given (life_of rules given log)

-- Whatever life the value stood for before, it stands for it now with this step more, which it answered.
abbrev pub Follows : Rules → (Before After : Lives) → ReadStep → Type 0
Follows rules Before After step = (g : Given) (E : List Entry) → Before g E → After g (answered rules g E step ∷ E)

-- It was read from these bytes of the stream, under the settings that are named, and it fits them.
pub record WasRead {S : Type 0} (Says : S → Sayings) (fits : S → ℕ → Arrival → Bool) (named : Option S) (stream : ℕ) (bytes : List ℕ) (arrival : Arrival) : Type 0 where
  pub settings : S
  pub are_named : named ≡ Some settings
  pub says : Says settings stream bytes arrival
  pub suits : fits settings stream arrival ≡ true

-- The steps that are kept since the base: where they are as many as the limit, the base is brought up by them, and then there are none.
abbrev pub since : (limit : ℕ) → List CoreStep → List CoreStep
since limit steps = if nat_le limit (length steps) then [] else steps

-- A step was added to the log, and its caller has seen that; what it had seen before begins the log as it was.
pub record HasLogged (step : ReadStep) (log after before seen : List ReadStep) : Type 0 where
  pub added : after ≡ log ++ step ∷ []
  pub sees : seen ≡ after
  pub later : IsPrefix before log
