-- What a run did with what it was handed: its sources, its ticker, its mark and its sink.
use Rattle.std.specs.Prelude.{◌≡◌, ◌++◌, ℕ, Bool, Err, IfOk, List, Ok, Result, [], length, map, false, true}
use Rattle.pdc_aligner.specs.Device.{Standing}
use Rattle.pdc_aligner.specs.Sequence.{Rises, instants_of}
use Rattle.pdc_hub.specs.declared.fault.HubFault.{HubFault}
use Rattle.pdc_journal.specs.Among.{AreAmong}
use Rattle.pdc_life.specs.CoreKind.{CoreKind, given_of, output_under, rules_of, Says}
use Rattle.pdc_mark.specs.declared.stored.Stored.{Stored}
use Rattle.pdc_pipe.specs.Sequence.{bytes_of}
use Rattle.pdc_pipe.specs.declared.message.Message.{Message}
use Rattle.pdc_ports.specs.Heard.{Heard}
use Rattle.pdc_startup.specs.declared.fault.ServiceFault.{ServiceFault}
use Rattle.pdc_startup.specs.declared.fault.ServiceFault.TheVariants.{Clock, Run}
use Rattle.pdc_startup.specs.pdc_sockets.Silent.{AreSilent}
use Rattle.pdc_threads.specs.OneRun.{Found, IsOneRun, found_by}
use Rattle.pdc_threads.specs.declared.totals.Totals.{Totals}
use Rattle.pdc_ticking.specs.Instants.{instant_of}

-- what a run answers: what its parts do, or that the clock could not be read
abbrev pub answer_to : Result Totals HubFault → (is_unreadable : Bool) → Result Totals ServiceFault
answer_to (Ok totals) true = Err Clock
answer_to (Ok totals) false = Ok totals
answer_to (Err fault) is_unreadable = Err (Run fault)

-- From this state on a timepiece showed times whose instants, at so many in a second, are these, in order.
abbrev pub TicksBy : {T : Type 0} (showed : T → List ℕ → Type 0) (time : T) (rate : ℕ) → List ℕ → Type 0
TicksBy {T} showed time rate nows = (after : T) × ((before : List ℕ) → showed time before
    → (times : List ℕ) × showed after times × (map (instant_of rate) before ++ nows ≡ map (instant_of rate) times))

-- From the one state to the other a sink took some of these frames, in their order, and nothing else.
abbrev pub TookSome : {K : Type 0} (took : K → K → List (List ℕ) → Type 0) (sink left : K) → List (List ℕ) → Type 0
TookSome took sink left given = (some : List (List ℕ)) × took sink left some × AreAmong some given

-- The run was one life of a core of this kind, given what the mark stored: what each source gave is what its stream brought there, in order,
-- with the answers that it has there; the ticks are the ticker's; and up to the state in which it was left the sink took some of the frames
-- of that life, with the layout again after so many ticks, in their order, and nothing else. It answered what its parts did.
pub record WasLifeWith {S K : Type 0} (kind : CoreKind) (every : ℕ) (stored : Stored) (told : S → List Heard → Type 0) (sources : List S) (Gave : List ℕ → Type 0)
    (took : K → K → List (List ℕ) → Type 0) (sink left : K) (outcome : Result Totals ServiceFault) : Type 0 where
  pub ended : Result Totals HubFault
  pub is_unreadable : Bool
  pub answered : outcome ≡ answer_to ended is_unreadable
  pub standing : Standing
  pub failures : ℕ
  pub after : Found
  pub one : IsOneRun (rules_of kind) (Says kind) (given_of kind stored.start stored.floor stored.counts 0) (output_under kind) (output_under kind).rate every told sources Gave (TookSome took sink left) (found_by stored standing failures) after ended

-- From this state up to the one in which it was left, a sink took some of the frames that were put, in their order, and nothing else; they are
-- of the one life that the run was. The instants of those that were put strictly rise above the floor that the mark stored; where the run was
-- Ok, they are as many as it tells.
pub record HasTaken {S K : Type 0} (kind : CoreKind) (every : ℕ) (stored : Stored) (told : S → List Heard → Type 0) (sources : List S) (Gave : List ℕ → Type 0)
    (took : K → K → List (List ℕ) → Type 0) (sink : K) (outcome : Result Totals ServiceFault) : Type 0 where
  pub put : List Message
  pub high : ℕ
  pub rising : Rises stored.floor (instants_of put) high
  pub published : IfOk outcome (λ totals. totals.published ≡ length (instants_of put))
  pub left : K
  pub some : List (List ℕ)
  pub taken : took sink left some
  pub among : AreAmong some (bytes_of put)
  pub one : ∥ WasLifeWith kind every stored told sources Gave took sink left outcome ∥₁

-- There were sources that had said nothing yet, and a sink as it is opened, of which the run was; of its clock nothing is told.
pub record WasHanded {S K : Type 0} (kind : CoreKind) (every : ℕ) (stored : Stored) (told : S → List Heard → Type 0) (fresh : K → Type 0) (took : K → K → List (List ℕ) → Type 0) (outcome : Result Totals ServiceFault) : Type 0 where
  pub sources : List S
  pub silent : AreSilent told sources
  pub sink : K
  pub opened : fresh sink
  pub handed : HasTaken kind every stored told sources (λ nows. Unit {0}) took sink outcome
