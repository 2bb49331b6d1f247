-- The steps of a startup, put together one by one.
use Rattle.std.proofs.Common.{◌≡◌, ◌++◌, ◌∷◌, List, None, Result, Err, Some, [], append-nil, append_assoc, refl, subst, sym}
use Rattle.std.specs.Prelude.{IfErr, Option}
use Rattle.pdc_mark.specs.declared.stored.Stored.{Stored}
use Rattle.pdc_hub.specs.declared.fault.HubFault.TheVariants.{NoMemory}
use Rattle.pdc_startup.specs.pdc_sockets.Concentrator.{IsMerger, streams_of}
use Rattle.pdc_startup.specs.Faults.{IsOfFile, IsOfRun}
use Rattle.pdc_startup.specs.Steps.{Attempt, HasOpened, HasStarted, IsFaultOf, Tells, steps_with}
use Rattle.pdc_startup.specs.pdc_sockets.declared.concentrator.Concentrator.{Concentrator}
use Rattle.pdc_startup.specs.pdc_sockets.declared.concentrator.Concentrator.TheVariants.{Merger, Node}
use Rattle.pdc_startup.specs.declared.described.Described.{Described}
use Rattle.pdc_startup.specs.declared.described.Files.{Files}
use Rattle.pdc_startup.specs.declared.described.Step.{Step}
use Rattle.pdc_startup.specs.declared.described.Step.TheVariants.{BeginMark, ReadSettings}
use Rattle.pdc_startup.specs.declared.fault.ServiceFault.{ServiceFault}
use Rattle.pdc_startup.specs.declared.fault.ServiceFault.TheVariants.{Run}

-- the step was opened
abbrev pub good : Step → Described → Attempt
good step described = record { step = step; under = Some described; stored = None; fault = None }

-- the step failed
abbrev pub bad : Step → Described → ServiceFault → Attempt
bad step described fault = record { step = step; under = Some described; stored = None; fault = Some fault }

-- the mark was begun
abbrev pub begun : Files → Described → Stored → Attempt
begun files described stored = record { step = BeginMark files; under = Some described; stored = Some stored; fault = None }

-- what was told up to a state, and from there
told_both : {M : Type 0} (tried : M → M → List Attempt → Type 0) {old mid new : M} (first later : List Attempt)
    → Tells tried old mid first → Tells tried mid new later → Tells tried old new (first ++ later)
told_both tried {old} {mid} {new} first later a b before given t =
    subst (λ (told : List Attempt). tried before new told) (append_assoc given first later) (b before (given ++ first) (a before given t))

-- nothing was tried
told_nothing : {M : Type 0} (tried : M → M → List Attempt → Type 0) (now : M) → Tells tried now now []
told_nothing tried now before given t = subst (λ (told : List Attempt). tried before now told) (sym (append-nil given)) t

-- Where a step was opened, and so it went on, so it went.
pub goes_on : {M T : Type 0} (tried : M → M → List Attempt → Type 0) {old mid new : M} (described : Described) (step : Step) {Ran : Described → Stored → Type 0} {stored : Option Stored} {steps : List Step} {outcome : Result T ServiceFault}
    → Tells tried old mid (good step described ∷ []) → HasOpened tried mid new described Ran stored steps outcome → HasOpened tried old new described Ran stored (step ∷ steps) outcome
goes_on tried described step told rest = record {
  attempts = good step described ∷ rest.attempts;
  told = told_both tried (good step described ∷ []) rest.attempts told rest.told;
  in_order = (refl, refl, rest.in_order);
}

-- Where the mark was begun, and so it went on with what that stores, so it went.
pub begins : {M T : Type 0} (tried : M → M → List Attempt → Type 0) {old mid new : M} (described : Described) (files : Files) (now : Stored) {Ran : Described → Stored → Type 0} {stored : Option Stored} {steps : List Step} {outcome : Result T ServiceFault}
    → Tells tried old mid (begun files described now ∷ []) → HasOpened tried mid new described Ran (Some now) steps outcome → HasOpened tried old new described Ran stored (BeginMark files ∷ steps) outcome
begins tried described files now told rest = record {
  attempts = begun files described now ∷ rest.attempts;
  told = told_both tried (begun files described now ∷ []) rest.attempts told rest.told;
  in_order = (refl, refl, rest.in_order);
}

-- Where a step failed, it ended there.
pub stops : {M T : Type 0} (tried : M → M → List Attempt → Type 0) {old new : M} (described : Described) (step : Step) (steps : List Step) (fault : ServiceFault) {Ran : Described → Stored → Type 0} {stored : Option Stored}
    → Tells tried old new (bad step described fault ∷ []) → IsFaultOf step fault → HasOpened {T = T} tried old new described Ran stored (step ∷ steps) (Err fault)
stops tried described step steps fault told of_step = record {
  attempts = bad step described fault ∷ [];
  told = told;
  in_order = (refl, refl, (of_step, refl, refl));
}

-- Where memory ran out before a step, it was not tried.
pub wants_memory : {M T : Type 0} (tried : M → M → List Attempt → Type 0) (now : M) (described : Described) (step : Step) (steps : List Step) {Ran : Described → Stored → Type 0} {stored : Option Stored}
    → HasOpened {T = T} tried now now described Ran stored (step ∷ steps) (Err (Run NoMemory))
wants_memory tried now described step steps = record { attempts = []; told = told_nothing tried now; in_order = refl }

-- Where none was left, the run answered.
pub runs : {M T : Type 0} (tried : M → M → List Attempt → Type 0) (now : M) (described : Described) (stored : Stored) {Ran : Described → Stored → Type 0} {outcome : Result T ServiceFault}
    → IfErr outcome IsOfRun → Ran described stored → HasOpened tried now now described Ran (Some stored) [] outcome
runs tried now described stored of_run ran = record { attempts = []; told = told_nothing tried now; in_order = (refl, of_run, ran) }

-- The settings were read, and so the steps followed.
pub starts : {M T : Type 0} (tried : M → M → List Attempt → Type 0) {old mid new : M} (Is : Concentrator → Type 0) {Ran : Described → Stored → Type 0} (files : Files) (described : Described) {outcome : Result T ServiceFault}
    → Tells tried old mid (good (ReadSettings files) described ∷ []) → Is described.concentrator → HasOpened tried mid new described Ran None (steps_with files) outcome → HasStarted tried old new Is Ran files outcome
starts tried Is files described told is rest = record {
  attempts = good (ReadSettings files) described ∷ rest.attempts;
  told = told_both tried (good (ReadSettings files) described ∷ []) rest.attempts told rest.told;
  in_order = (refl, (is, rest.in_order));
}

-- Where they were not, no step followed.
pub unread : {M T : Type 0} (tried : M → M → List Attempt → Type 0) {old new : M} (Is : Concentrator → Type 0) {Ran : Described → Stored → Type 0} (files : Files) (fault : ServiceFault)
    → Tells tried old new (record { step = ReadSettings files; under = None; stored = None; fault = Some fault } ∷ []) → IsOfFile fault → HasStarted {T = T} tried old new Is Ran files (Err fault)
unread tried Is files fault told of_file = record {
  attempts = record { step = ReadSettings files; under = None; stored = None; fault = Some fault } ∷ [];
  told = told;
  in_order = (refl, (of_file, refl, refl));
}

-- the merger takes two streams
pub two_streams : (concentrator : Concentrator) → IsMerger concentrator → streams_of concentrator ≡ 2
two_streams (Node settings) is = absurd is
two_streams (Merger settings) is = refl
