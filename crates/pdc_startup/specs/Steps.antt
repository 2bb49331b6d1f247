-- In which order the steps of a startup are tried, and how it ends.
use Rattle.std.specs.Prelude.{◌≡◌, ◌++◌, ◌∷◌, List, Option, Some, None, Result, Ok, Err, IfErr, IfSome, []}
use Rattle.pdc_mark.specs.declared.stored.Stored.{Stored}
use Rattle.pdc_hub.specs.declared.fault.HubFault.TheVariants.{NoMemory}
use Rattle.pdc_startup.specs.Faults.{IsOfFile, IsOfListener, IsOfMark, IsOfRecord, IsOfRun, IsOfSink, IsOfSources}
use Rattle.pdc_sockets.specs.declared.concentrator.Concentrator.{Concentrator}
use Rattle.pdc_startup.specs.declared.described.Described.{Described}
use Rattle.pdc_startup.specs.declared.described.Files.{Files}
use Rattle.pdc_startup.specs.declared.described.Step.{Step}
use Rattle.pdc_startup.specs.declared.described.Step.TheVariants.{BeginMark, BeginRecord, OpenListener, OpenMetrics, OpenSink, OpenSources, ReadSettings}
use Rattle.pdc_startup.specs.declared.fault.ServiceFault.{ServiceFault}
use Rattle.pdc_startup.specs.declared.fault.ServiceFault.TheVariants.{Run}

-- A step that was tried: under which settings, once they are read, what the mark stores where it was begun, and by which fault the step
-- ended, where it failed.
pub record Attempt : Type 0 where
  pub step : Step
  pub under : Option Described
  pub stored : Option Stored
  pub fault : Option ServiceFault

-- the settings in these files were read, with this answer
abbrev pub reading : Files → Result Described ServiceFault → Attempt
reading files (Ok described) = record { step = ReadSettings files; under = Some described; stored = None; fault = None }
reading files (Err fault) = record { step = ReadSettings files; under = None; stored = None; fault = Some fault }

-- the mark in these files was begun under these settings, with this answer
abbrev pub beginning : {T : Type 0} → Files → Described → (T → Stored) → Result T ServiceFault → Attempt
beginning files described stored_by (Ok begun) = record { step = BeginMark files; under = Some described; stored = Some (stored_by begun); fault = None }
beginning files described stored_by (Err fault) = record { step = BeginMark files; under = Some described; stored = None; fault = Some fault }

-- a step behind it was tried under these settings, with this answer
abbrev pub attempt : {T : Type 0} → Step → Described → Result T ServiceFault → Attempt
attempt step described (Ok value) = record { step = step; under = Some described; stored = None; fault = None }
attempt step described (Err fault) = record { step = step; under = Some described; stored = None; fault = Some fault }

-- What a machine tells of its tries: from the one state to the other it tried these, in order, behind all that it had tried before.
abbrev pub Tells : {M : Type 0} (tried : M → M → List Attempt → Type 0) (old new : M) (more : List Attempt) → Type 0
Tells {M} tried old new more = (before : M) (given : List Attempt) → tried before old given → tried before new (given ++ more)

-- by which faults a step ends
abbrev pub IsFaultOf : Step → ServiceFault → Type 0
IsFaultOf (ReadSettings files) fault = IsOfFile fault
IsFaultOf (BeginMark files) fault = IsOfMark fault
IsFaultOf (BeginRecord files) fault = IsOfRecord fault
IsFaultOf OpenSources fault = IsOfSources fault
IsFaultOf OpenSink fault = IsOfSink fault
IsFaultOf OpenListener fault = IsOfListener fault
IsFaultOf OpenMetrics fault = IsOfListener fault

-- the steps behind the settings, in their order
abbrev pub steps_with : Files → List Step
steps_with files = BeginMark files ∷ OpenSources ∷ OpenSink ∷ OpenListener ∷ OpenMetrics ∷ BeginRecord files ∷ []

-- A step that failed was the last that was tried: the startup ended by its fault, which is one of the step's own. One that did not fail was
-- followed by what is to follow.
abbrev pub GoesOn : {T : Type 0} → Step → (fault : Option ServiceFault) (follows : Type 0) (later : List Attempt) (outcome : Result T ServiceFault) → Type 0
GoesOn step None follows later outcome = follows
GoesOn step (Some fault) follows later outcome = IsFaultOf step fault × (later ≡ []) × (outcome ≡ Err fault)

-- what the mark stores, once it was begun
abbrev pub known : (before now : Option Stored) → Option Stored
known before (Some stored) = Some stored
known before None = before

-- These steps were tried in this order, each once, under these settings, up to the first that failed. Where none failed, all were tried, and
-- the startup ended by the run's answer, and the run was such as runs are that begin with what the mark stores; or memory ran out between
-- two of them, and the rest were not tried.
abbrev pub AreInOrder : {T : Type 0} → Described → (Ran : Described → Stored → Type 0) (stored : Option Stored) (steps : List Step) (attempts : List Attempt) (outcome : Result T ServiceFault) → Type 0
AreInOrder described Ran stored [] attempts outcome = (attempts ≡ []) × IfErr outcome IsOfRun × IfSome stored (Ran described)
AreInOrder described Ran stored (step ∷ steps) [] outcome = outcome ≡ Err (Run NoMemory)
AreInOrder described Ran stored (step ∷ steps) (a ∷ attempts) outcome =
    (a.step ≡ step) × (a.under ≡ Some described) × GoesOn step a.fault (AreInOrder described Ran (known stored a.stored) steps attempts outcome) attempts outcome

-- What was read goes before: where it failed, nothing more was tried; where not, the steps follow under what was read, which is of a node, or
-- of the merger.
abbrev pub FollowsReading : {T : Type 0} (Is : Concentrator → Type 0) (Ran : Described → Stored → Type 0) → Files → (under : Option Described) (fault : Option ServiceFault) (later : List Attempt) (outcome : Result T ServiceFault) → Type 0
FollowsReading Is Ran files (Some described) None later outcome = Is described.concentrator × AreInOrder described Ran None (steps_with files) later outcome
FollowsReading Is Ran files None (Some fault) later outcome = IsOfFile fault × (later ≡ []) × (outcome ≡ Err fault)
FollowsReading Is Ran files _ _ later outcome = ⊥

-- the whole of a startup: the settings were read first, and then the steps followed in their order
abbrev pub IsStartup : {T : Type 0} (Is : Concentrator → Type 0) (Ran : Described → Stored → Type 0) → Files → (attempts : List Attempt) (outcome : Result T ServiceFault) → Type 0
IsStartup Is Ran files [] outcome = ⊥
IsStartup Is Ran files (a ∷ attempts) outcome = (a.step ≡ ReadSettings files) × FollowsReading Is Ran files a.under a.fault attempts outcome

-- From the one state of the machine to the other these steps were tried, and so it ended.
pub record HasOpened {M T : Type 0} (tried : M → M → List Attempt → Type 0) (old new : M) (described : Described) (Ran : Described → Stored → Type 0) (stored : Option Stored) (steps : List Step) (outcome : Result T ServiceFault) : Type 0 where
  pub attempts : List Attempt
  pub told : Tells tried old new attempts
  pub in_order : AreInOrder described Ran stored steps attempts outcome

-- From the one state of the machine to the other a whole startup was tried.
pub record HasStarted {M T : Type 0} (tried : M → M → List Attempt → Type 0) (old new : M) (Is : Concentrator → Type 0) (Ran : Described → Stored → Type 0) (files : Files) (outcome : Result T ServiceFault) : Type 0 where
  pub attempts : List Attempt
  pub told : Tells tried old new attempts
  pub in_order : IsStartup Is Ran files attempts outcome
