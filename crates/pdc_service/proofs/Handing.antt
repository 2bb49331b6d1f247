-- What a sink took of a run, from how the run is over.
use Rattle.std.proofs.Common.{◌≡◌, ◌∙◌, ◌+◌, ◌++◌, ◌∷◌, ℕ, List, Result, Ok, Err, [], ap, append-nil, arith, inl, inr, refl, subst, sym}
use Rattle.std.specs.Prelude.{Bool, IfErr, IfOk, false, length, map, true}
use Rattle.pdc_aligner.specs.Device.{Standing}
use Rattle.pdc_aligner.specs.Sequence.{instants_of}
use Rattle.std.proofs.Math.Logic.{∥∥₁_map}
use Rattle.pdc_hub.specs.Replay.{Sayings}
use Rattle.pdc_hub.specs.declared.fault.HubFault.{HubFault}
use Rattle.pdc_hub.specs.declared.fault.HubFault.TheVariants.{NoMemory}
use Rattle.pdc_life.specs.Answer.{Rules}
use Rattle.pdc_life.specs.CoreKind.{CoreKind, given_of, output_under, rules_of, Says}
use Rattle.pdc_life.specs.Given.{Given}
use Rattle.pdc_life.specs.declared.outcome.Outcome.{Outcome}
use Rattle.pdc_journal.specs.Among.{AreAmong}
use Rattle.pdc_mark.specs.declared.stored.Stored.{Stored}
use Rattle.pdc_pipe.specs.declared.message.Message.{Message}
use Rattle.pdc_ports.specs.Heard.{Heard, TellsFrom}
use Rattle.pdc_row.specs.declared.output.Output.{Output}
use Rattle.pdc_startup.specs.pdc_sockets.declared.concentrator.Concentrator.{Concentrator}
use Rattle.pdc_startup.specs.declared.fault.ServiceFault.{ServiceFault}
use Rattle.pdc_startup.specs.declared.fault.ServiceFault.TheVariants.{Run}
use Rattle.pdc_threads.specs.declared.totals.Totals.{Totals}
use Rattle.pdc_threads.specs.Ended.{AreFor, Ending, HasEndedOf}
use Rattle.pdc_threads.specs.OneRun.{Found, IsOneRun, found_by}
use Rattle.pdc_threads.specs.Run.{GivesFrom}
use Rattle.pdc_ticking.specs.Instants.{instant_of}
use Rattle.pdc_service.specs.Ended.{IsOver, kind_of}
use Rattle.pdc_service.specs.Handed.{HasTaken, TicksBy, TookSome, answer_to}
use Rattle.pdc_service.proofs.Nothing.{nothing_ran}
use Rattle.pdc_startup.specs.Faults.{IsOfRun}

-- how a mark stands that nothing befell
abbrev unharmed_standing : Standing
unharmed_standing = record { failed = false; broken = false; failures = 0 }

-- nothing was run, and nothing handed to it
pub nothing_handed : {S K : Type 0} (kind : CoreKind) (every : ℕ) (stored : Stored) (told : S → List Heard → Type 0) (sources : List S) (Gave : List ℕ → Type 0) (took : K → K → List (List ℕ) → Type 0) (sink : K)
    → Gave [] → took sink sink [] → HasTaken kind every stored told sources Gave took sink (Err (Run NoMemory))
nothing_handed kind every stored told sources Gave took sink gave none = record {
  put = [];
  high = stored.floor;
  rising = omega arith;
  published = tt;
  left = sink;
  some = [];
  taken = none;
  among = refl;
  one = ∣ record {
    ended = Err NoMemory;
    is_unreadable = false;
    answered = refl;
    standing = unharmed_standing;
    failures = 0;
    after = found_by stored unharmed_standing 0;
    one = nothing_ran (rules_of kind) (Says kind) (given_of kind stored.start stored.floor stored.counts 0) (output_under kind) (output_under kind).rate every told Gave (found_by stored unharmed_standing 0) sources gave ([], none, refl);
  } ∣₁;
}

-- no time was shown
pub shows_none : {T : Type 0} (showed : T → List ℕ → Type 0) (time : T) (rate : ℕ) → TicksBy showed time rate []
shows_none showed time rate = (time, λ before shown. (before, shown, append-nil (map (instant_of rate) before)))

map_same : {A : Type 0} (xs : List A) → map (λ x. x) xs ≡ xs
map_same [] = refl
map_same (x ∷ xs) = ap (λ l. x ∷ l) (map_same xs)

none_among : {A : Type 0} (all : List A) → AreAmong [] all
none_among [] = refl
none_among (x ∷ all) = inl (none_among all)

-- what is among the first part is among all
among_front : {A : Type 0} (some first rest : List A) → AreAmong some first → AreAmong some (first ++ rest)
among_front some [] rest among = subst (λ xs. AreAmong xs rest) (sym among) (none_among rest)
among_front some (x ∷ first) rest among = elim among [
  | inl later ↦ inl (among_front some first rest later)
  | inr found ↦ inr (found.0, found.1, among_front found.0 first rest found.2)
]

-- so many were published, where it is the same Ok
same_published : (outcome : Result Totals HubFault) (told : Result Totals ServiceFault) (put : List Message) → IfOk told (λ totals. outcome ≡ Ok totals)
    → IfOk outcome (λ totals. totals.published ≡ length (instants_of put)) → IfOk told (λ totals. totals.published ≡ length (instants_of put))
same_published outcome (Ok totals) put same published = subst (λ ended. IfOk ended (λ totals. totals.published ≡ length (instants_of put))) same published
same_published outcome (Err fault) put same published = tt

-- what holds of the totals of a run holds of them where they are its answer
pub of_ok : (P : Totals → Type 0) (outcome : Result Totals HubFault) (told : Result Totals ServiceFault) → IfOk told (λ totals. outcome ≡ Ok totals) → IfOk outcome P → IfOk told P
of_ok P outcome (Ok totals) same holds = subst (λ (ended : Result Totals HubFault). IfOk ended P) same holds
of_ok P outcome (Err fault) same holds = tt

-- a run answers Ok by the totals of its parts alone
pub answered_ok : (outcome : Result Totals HubFault) (is_unreadable : Bool) → IfOk (answer_to outcome is_unreadable) (λ totals. outcome ≡ Ok totals)
answered_ok (Ok totals) true = tt
answered_ok (Ok totals) false = refl
answered_ok (Err fault) is_unreadable = tt

-- and fails as runs do
pub answered_err : (outcome : Result Totals HubFault) (is_unreadable : Bool) → IfErr (answer_to outcome is_unreadable) IsOfRun
answered_err (Ok totals) true = tt
answered_err (Ok totals) false = tt
answered_err (Err fault) is_unreadable = tt

-- What receivers received of sources that are around others, they received of those.
received_of : {W S : Type 0} (told : W → List Heard → Type 0) (tells : S → List Heard → Type 0) (Brought : ℕ → List (List ℕ × Outcome) → Type 0) (inner : W → S)
    → ((w : W) (heard : List Heard) → TellsFrom told w heard → TellsFrom tells (inner w) heard)
    → (number : ℕ) (ws : List W) (endings : List Ending) → AreFor (HasEndedOf told Brought) number ws endings → AreFor (HasEndedOf tells Brought) number (map inner ws) endings
received_of told tells Brought inner f number ws [] h = tt
received_of told tells Brought inner f number [] (e ∷ es) h = absurd h
received_of told tells Brought inner f number (w ∷ ws) (e ∷ es) h = (
  record {
    served = h.0.served;
    last = h.0.last;
    told = f w (h.0.served ++ h.0.last ∷ []) h.0.told;
    own = h.0.own;
    are_served = h.0.are_served;
    are_brought = h.0.are_brought;
    ends = h.0.ends;
    taken_counted = h.0.taken_counted;
    refused_counted = h.0.refused_counted;
    all_counted = h.0.all_counted;
  },
  received_of told tells Brought inner f (number + 1) ws es h.1,
)

length_of : {W S : Type 0} (f : W → S) (ws : List W) → length (map f ws) ≡ length ws
length_of f [] = refl
length_of f (w ∷ ws) = omega (arith, length_of f ws)

-- A run over sources, a ticker and a sink that are around others was one over those.
one_mapped : {W S : Type 0} {answers : Rules} {Said : Sayings} {g : Given} {output : Output} {rate every : ℕ} {told : W → List Heard → Type 0} {tells : S → List Heard → Type 0} {Gave Gives : List ℕ → Type 0} {Took Takes : List (List ℕ) → Type 0}
    {before after : Found} {watched : List W} {outcome : Result Totals HubFault} (inner : W → S)
    → ((w : W) (heard : List Heard) → TellsFrom told w heard → TellsFrom tells (inner w) heard)
    → ((nows : List ℕ) → Gave nows → Gives nows) → ((given : List (List ℕ)) → Took given → Takes given)
    → IsOneRun answers Said g output rate every told watched Gave Took before after outcome → IsOneRun answers Said g output rate every tells (map inner watched) Gives Takes before after outcome
one_mapped {told = told} {tells = tells} {watched = watched} inner f k t one = record {
  steps = one.steps;
  is_life = one.is_life;
  complete = one.complete;
  endings = one.endings;
  received = received_of told tells _ inner f 0 watched one.endings one.received;
  all_came = λ e. one.all_came e ∙ sym (length_of inner watched);
  failed = one.failed;
  ticked = k _ one.ticked;
  one_failed = one.one_failed;
  counts = one.counts;
  all_due = one.all_due;
  given = one.given;
  rest = one.rest;
  took = t one.given one.took;
  sent = one.sent;
  whole = one.whole;
  entries = one.entries;
  published = one.published;
  aligned = one.aligned;
  device = one.device;
  ended = one.ended;
  sink = one.sink;
  told_fault = one.told_fault;
}

-- the same, of those by their names
one_within : {W S : Type 0} {answers : Rules} {Said : Sayings} {g : Given} {output : Output} {rate every : ℕ} {told : W → List Heard → Type 0} {tells : S → List Heard → Type 0} {Gave Gives : List ℕ → Type 0} {Took Takes : List (List ℕ) → Type 0}
    {before after : Found} {watched : List W} {sources : List S} {outcome : Result Totals HubFault} (inner : W → S)
    → ((w : W) (heard : List Heard) → TellsFrom told w heard → TellsFrom tells (inner w) heard)
    → ((nows : List ℕ) → Gave nows → Gives nows) → ((given : List (List ℕ)) → Took given → Takes given) → map inner watched ≡ sources
    → IsOneRun answers Said g output rate every told watched Gave Took before after outcome → IsOneRun answers Said g output rate every tells sources Gives Takes before after outcome
one_within {answers = answers} {Said = Said} {g = g} {output = output} {rate = rate} {every = every} {tells = tells} {Gives = Gives} {Takes = Takes} {before = before} {after = after} {outcome = outcome} inner f k t same one =
    subst (λ ss. IsOneRun answers Said g output rate every tells ss Gives Takes before after outcome) same (one_mapped inner f k t one)

-- A ticker that gives the instants of the times of a timepiece within it gave those of the times that this showed.
pub ticks_by : {I T : Type 0} (gave : I → List ℕ → Type 0) (showed : T → List ℕ → Type 0) (rate : ℕ) (time_in : I → T) (ticker : I)
    → ((i : I) (times : List ℕ) → showed (time_in i) times → gave i (map (instant_of rate) times))
    → ((i : I) (nows : List ℕ) → gave i nows → (times : List ℕ) × showed (time_in i) times × (nows ≡ map (instant_of rate) times))
    → (nows : List ℕ) → GivesFrom gave ticker nows → TicksBy showed (time_in ticker) rate nows
ticks_by gave showed rate time_in ticker to from nows given = (
  time_in given.0,
  λ before shown. from given.0 (map (instant_of rate) before ++ nows) (given.1 (map (instant_of rate) before) (to ticker before shown)),
)

-- A run that is over, whose sink is around another one, handed that one some of its frames, and was one life of what its sources are around.
pub over_handed : {W S L K : Type 0} {concentrator : Concentrator} {every : ℕ} {told : W → List Heard → Type 0} {tells : S → List Heard → Type 0} {Gave Gives : List ℕ → Type 0} {failures_of : L → ℕ}
    {stored : Stored} {standing : Standing} {failures : ℕ} {watched : List W} {sources : List S} {outcome : Result Totals HubFault}
    (took : K → K → List (List ℕ) → Type 0) (sink : K) (inner : L → K) (Counted : L → List (List ℕ) → List (List ℕ) → Type 0) (source_in : W → S) (answer : Result Totals ServiceFault) (is_unreadable : Bool)
    → answer ≡ answer_to outcome is_unreadable
    → ((w : W) (heard : List Heard) → TellsFrom told w heard → TellsFrom tells (source_in w) heard)
    → ((nows : List ℕ) → Gave nows → Gives nows) → map source_in watched ≡ sources
    → IsOver concentrator every told Gave (λ left given. (some : List (List ℕ)) × took sink (inner left) some × AreAmong some given × Counted left some given) failures_of (found_by stored standing failures) watched outcome
    → HasTaken (kind_of concentrator) every stored tells sources Gives took sink answer
over_handed {stored = stored} {standing = standing} {failures = failures} {outcome = outcome} took sink inner Counted source_in answer is_unreadable answered f k same over = record {
  put = over.sent.put;
  high = over.after.stored.floor;
  rising = over.sent.rising;
  published = same_published outcome answer over.sent.put (subst (λ (r : Result Totals ServiceFault). IfOk r (λ totals. outcome ≡ Ok totals)) (sym answered) (answered_ok outcome is_unreadable)) over.sent.published;
  left = inner over.left;
  some = over.sent.took.0;
  taken = over.sent.took.1;
  among = subst (AreAmong over.sent.took.0) (sym over.sent.first) (among_front over.sent.took.0 over.sent.given over.sent.rest over.sent.took.2);
  one = ∥∥₁_map over.one (λ one. record {
    ended = outcome;
    is_unreadable = is_unreadable;
    answered = answered;
    standing = standing;
    failures = failures;
    after = over.after;
    one = one_within source_in f k (λ given taken. (taken.0, taken.1, taken.2)) same one;
  });
}

-- the same, named otherwise
pub handed_by : {S K : Type 0} {kind : CoreKind} {every each : ℕ} {stored kept : Stored} {told : S → List Heard → Type 0} {sources : List S} {Gave : List ℕ → Type 0} {took : K → K → List (List ℕ) → Type 0} {sink same : K} {answer : Result Totals ServiceFault}
    → sink ≡ same → stored ≡ kept → every ≡ each → HasTaken kind every stored told sources Gave took sink answer → HasTaken kind each kept told sources Gave took same answer
handed_by {kind = kind} {each = each} {stored = stored} {kept = kept} {told = told} {sources = sources} {Gave = Gave} {took = took} {sink = sink} {answer = answer} e f h handed =
    subst (λ s. HasTaken kind each kept told sources Gave took s answer) e
    (subst (λ s. HasTaken kind each s told sources Gave took sink answer) f
    (subst (λ n. HasTaken kind n stored told sources Gave took sink answer) h handed))

-- What a sink took is what its outputs took; of the ticks nothing is asked.
pub of_outputs : {S L K : Type 0} {kind : CoreKind} {every : ℕ} {stored : Stored} {told : S → List Heard → Type 0} {sources : List S} {Gave : List ℕ → Type 0} {took : K → K → List (List ℕ) → Type 0} {sink : L} {answer : Result Totals ServiceFault} (outputs : L → K)
    → HasTaken {K = L} kind every stored told sources Gave (λ before now given. took (outputs before) (outputs now) given) sink answer → HasTaken kind every stored told sources (λ nows. Unit {0}) took (outputs sink) answer
of_outputs outputs handed = record {
  put = handed.put;
  high = handed.high;
  rising = handed.rising;
  published = handed.published;
  left = outputs handed.left;
  some = handed.some;
  taken = handed.taken;
  among = handed.among;
  one = ∥∥₁_map handed.one (λ h. record {
    ended = h.ended;
    is_unreadable = h.is_unreadable;
    answered = h.answered;
    standing = h.standing;
    failures = h.failures;
    after = h.after;
    one = one_within (λ s. s) (λ s heard t. t) (λ nows given. tt) (λ given t. t) (map_same _) h.one;
  });
}

-- a ticker that gave nothing
pub gives_none : {I : Type 0} (gave : I → List ℕ → Type 0) (ticker : I) → GivesFrom gave ticker []
gives_none gave ticker = (ticker, λ before g. subst (λ (ns : List ℕ). gave ticker ns) (sym (append-nil before)) g)

-- What a sink took of a run by the ticks of one ticker it took of one by those that follow from them.
pub ticked_by : {S K : Type 0} {kind : CoreKind} {every : ℕ} {stored : Stored} {told : S → List Heard → Type 0} {sources : List S} {Gave Gives : List ℕ → Type 0} {took : K → K → List (List ℕ) → Type 0} {sink : K} {answer : Result Totals ServiceFault}
    → ((nows : List ℕ) → Gave nows → Gives nows) → HasTaken kind every stored told sources Gave took sink answer → HasTaken kind every stored told sources Gives took sink answer
ticked_by k handed = record {
  put = handed.put;
  high = handed.high;
  rising = handed.rising;
  published = handed.published;
  left = handed.left;
  some = handed.some;
  taken = handed.taken;
  among = handed.among;
  one = ∥∥₁_map handed.one (λ h. record {
    ended = h.ended;
    is_unreadable = h.is_unreadable;
    answered = h.answered;
    standing = h.standing;
    failures = h.failures;
    after = h.after;
    one = one_within (λ s. s) (λ s heard t. t) k (λ given t. t) (map_same _) h.one;
  });
}
