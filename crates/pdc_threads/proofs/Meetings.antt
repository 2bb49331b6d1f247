-- Receivers and who aligns have met: one life.
use Rattle.std.proofs.Common.{arith, ◌≡◌, ◌<◌, ◌+◌, ℕ, zero, suc, Bool, true, List, [], ◌∷◌, ◌++◌, length, map, sum, Option, Some, Result, Ok, Err, IfOk, OnOk, refl, sym, ap, ◌∙◌, subst, append-nil, append_assoc}
use Rattle.std.proofs.Math.Logic.{∥∥₁_elim, ∥∥₁_map, ∥∥₁_prop}
use Rattle.std.proofs.lemmas.List.Sums.{sum-map, sum_by-cons}
use mathlib.Core.List.{IsPrefix}
use Rattle.pdc_aligner.specs.Device.{HasDevice}
use Rattle.pdc_aligner.specs.Laid.{AreDone, IsDone, IsLaid, IsLaidBut, are_done, frames_of, is_done}
use Rattle.pdc_aligner.specs.Sequence.{instants_of}
use Rattle.pdc_aligner.specs.Turns.{HasTicked, NeverFall}
use Rattle.pdc_aligner.proofs.Laying.{are_done_seen, but_seen, done_seen, laid_seen}
use Rattle.pdc_aligner.proofs.Ticking.{look_ticks}
use Rattle.pdc_hub.specs.Received.{AreBrought}
use Rattle.pdc_hub.specs.Replay.{AreSaid, Sayings, WasRead}
use Rattle.pdc_hub.specs.declared.fault.HubFault.{HubFault}
use Rattle.pdc_hub.proofs.Meeting.{IsOneLife, makes_life, met, sum_to}
use Rattle.pdc_hub.proofs.Receiving.{among_prefix, brought_grows}
use Rattle.pdc_hub.proofs.Replays.{here}
use Rattle.pdc_life.specs.Answer.{ReadStep, Rules}
use Rattle.pdc_life.specs.Arrival.{Arrival}
use Rattle.pdc_life.specs.Given.{Given}
use Rattle.pdc_life.specs.declared.outcome.Outcome.{Outcome}
use Rattle.pdc_log.specs.Among.{IsAmong}
use Rattle.pdc_log.specs.Log.{HasLooked, brought, came_in, life_of, ticks_of}
use Rattle.pdc_log.proofs.Fronts.{prefix_self}
use Rattle.pdc_pipe.specs.HandedOn.{HasHandedOn, HasSinkCause}
use Rattle.pdc_pipe.specs.Sequence.{bytes_of}
use Rattle.pdc_pipe.specs.declared.message.Message.{Message}
use Rattle.pdc_pipe.specs.declared.senders.Ended.{Ended}
use Rattle.pdc_pipe.specs.declared.senders.Ended.TheVariants.{AtEndMark}
use Rattle.pdc_ports.specs.Heard.{Heard}
use Rattle.pdc_row.specs.declared.output.Output.{Output}
use Rattle.pdc_threads.specs.Ended.{AreFor, Ending, HasEndedOf, fault_in, first_fault, first_of}
use Rattle.pdc_threads.specs.OneRun.{Found, IsBrought, IsOneRun}
use Rattle.pdc_threads.specs.declared.receivers.Counted.{Counted}
use Rattle.pdc_threads.specs.declared.totals.Totals.{Totals}
use Rattle.pdc_threads.proofs.Counting.{tells_popped}

-- what a stream brought, by what it is
abbrev pub StandsAmong : Rules → Given → List ReadStep → ℕ → List (List ℕ × Outcome) → Type 0
StandsAmong rules g log s own = IsAmong own (brought s (life_of rules g log))

-- a receiver's list by another word
rebrought : {S : Type 0} (told : S → List Heard → Type 0) (Old New : ℕ → List (List ℕ × Outcome) → Type 0) (source : S) (stream : ℕ) (e : Ending)
    → (h : HasEndedOf told Old source stream e) → New stream h.own → HasEndedOf told New source stream e
rebrought told Old New source stream e h new = record {
  served = h.served;
  last = h.last;
  told = h.told;
  own = h.own;
  are_served = h.are_served;
  are_brought = new;
  ends = h.ends;
  taken_counted = h.taken_counted;
  refused_counted = h.refused_counted;
  all_counted = h.all_counted;
}

-- what each has stands in the life, once more was seen
pub all_among : {S : Type 0} (told : S → List Heard → Type 0) (rules : Rules) (named : Option Given) (g : Given) (joined log : List ReadStep) (number : ℕ) (sources : List S) (endings : List Ending)
    → named ≡ Some g → IsPrefix joined log → AreFor (HasEndedOf told (λ s. AreBrought rules named s joined)) number sources endings
    → ∥ AreFor (HasEndedOf told (StandsAmong rules g log)) number sources endings ∥₁
all_among told rules named g joined log number sources [] is p h = ∣ tt ∣₁
all_among told rules named g joined log number [] (e ∷ endings) is p h = absurd h
all_among told rules named g joined log number (source ∷ sources) (e ∷ endings) is p h =
    ∥∥₁_elim (h.0.are_brought g is) ∥∥₁_prop (λ (among : IsAmong h.0.own (brought number (life_of rules g joined))). ∥∥₁_map (all_among told rules named g joined log (number + 1) sources endings is p h.1) (λ rest. (
      rebrought told (λ s. AreBrought rules named s joined) (StandsAmong rules g log) source number e h.0
          (among_prefix h.0.own (brought number (life_of rules g joined)) (brought number (life_of rules g log)) among (brought_grows number rules g joined log p)),
      rest,
    )))

-- what the receiver at each place has
own_at : {S : Type 0} (told : S → List Heard → Type 0) (Brought : ℕ → List (List ℕ × Outcome) → Type 0) (number : ℕ) (sources : List S) (endings : List Ending)
    → AreFor (HasEndedOf told Brought) number sources endings → ℕ → List (List ℕ × Outcome)
own_at told Brought number sources [] h k = []
own_at told Brought number [] (e ∷ endings) h k = absurd h
own_at told Brought number (source ∷ sources) (e ∷ endings) h zero = h.0.own
own_at told Brought number (source ∷ sources) (e ∷ endings) h (suc k) = own_at told Brought (number + 1) sources endings h.1 k

own_among : {S : Type 0} (told : S → List Heard → Type 0) (Brought : ℕ → List (List ℕ × Outcome) → Type 0) (number : ℕ) (sources : List S) (endings : List Ending)
    (h : AreFor (HasEndedOf told Brought) number sources endings) (k : ℕ) → k < length endings → Brought (number + k) (own_at told Brought number sources endings h k)
unfolding own_at
own_among told Brought number sources [] h k l = absurd (omega (arith, l))
own_among told Brought number [] (e ∷ endings) h k l = absurd h
own_among told Brought number (source ∷ sources) (e ∷ endings) h zero l = subst (λ (n : ℕ). Brought n h.0.own) (omega arith) h.0.are_brought
own_among told Brought number (source ∷ sources) (e ∷ endings) h (suc k) l =
    subst (λ (n : ℕ). Brought n (own_at told Brought (number + 1) sources endings h.1 k)) (omega arith) (own_among told Brought (number + 1) sources endings h.1 k (omega (arith, l)))

sum_first : (n : ℕ) (f : ℕ → ℕ) → sum_to (suc n) f ≡ f 0 + sum_to n (λ k. f (suc k))
sum_first zero f = omega arith
sum_first (suc n) f = omega (arith, sum_first n f)

-- what all counted
abbrev pub counted_in : List Ending → ℕ
counted_in [] = 0
counted_in (e ∷ endings) = ((e.counted.taken + e.counted.refused) + e.configured) + counted_in endings

own_sum : {S : Type 0} (told : S → List Heard → Type 0) (Brought : ℕ → List (List ℕ × Outcome) → Type 0) (number : ℕ) (sources : List S) (endings : List Ending)
    (h : AreFor (HasEndedOf told Brought) number sources endings) → sum_to (length endings) (λ k. length (own_at told Brought number sources endings h k)) ≡ counted_in endings
unfolding own_at
own_sum told Brought number sources [] h = refl
own_sum told Brought number [] (e ∷ endings) h = absurd h
own_sum told Brought number (source ∷ sources) (e ∷ endings) h =
    omega (arith, sum_first (length endings) (λ k. length (own_at told Brought number (source ∷ sources) (e ∷ endings) h k)), own_sum told Brought (number + 1) sources endings h.1, h.0.all_counted)

-- each has all that its stream brought, where the run is complete
all_brought : {S : Type 0} (told : S → List Heard → Type 0) (rules : Rules) (g : Given) (log : List ReadStep) (complete : Bool) (number : ℕ) (sources : List S) (endings : List Ending)
    (h : AreFor (HasEndedOf told (StandsAmong rules g log)) number sources endings)
    → ((k : ℕ) → k < length endings → complete ≡ true → brought (number + k) (life_of rules g log) ≡ own_at told (StandsAmong rules g log) number sources endings h k)
    → AreFor (HasEndedOf told (λ s. IsBrought complete (brought s (life_of rules g log)))) number sources endings
unfolding own_at
all_brought told rules g log complete number sources [] h all = tt
all_brought told rules g log complete number [] (e ∷ endings) h all = absurd h
all_brought told rules g log complete number (source ∷ sources) (e ∷ endings) h all = (
  rebrought told (StandsAmong rules g log) (λ s. IsBrought complete (brought s (life_of rules g log))) source number e h.0
      record { among = h.0.are_brought; whole = λ c. subst (λ (n : ℕ). brought n (life_of rules g log) ≡ h.0.own) (omega arith) (all 0 (omega arith) c) },
  all_brought told rules g log complete (number + 1) sources endings h.1
      (λ k l c. subst (λ (n : ℕ). brought n (life_of rules g log) ≡ own_at told (StandsAmong rules g log) (number + 1) sources endings h.1 k) (omega arith) (all (suc k) (omega (arith, l)) c)),
)

sum_cons : {A : Type 0} (f : A → ℕ) (x : A) (xs : List A) → sum (map f (x ∷ xs)) ≡ f x + sum (map f xs)
sum_cons f x xs = sum-map f (x ∷ xs) ∙ (sum_by-cons f x xs ∙ ap (λ n. f x + n) (sym (sum-map f xs)))

-- the sums of what all counted
pub sums_of : (endings : List Ending) → counted_in endings ≡ (sum (map (λ e. e.counted.taken) endings) + sum (map (λ e. e.counted.refused) endings)) + sum (map (λ e. e.configured) endings)
sums_of [] = refl
sums_of (e ∷ endings) =
    omega (arith, sums_of endings, sum_cons (λ (e : Ending). e.counted.taken) e endings, sum_cons (λ (e : Ending). e.counted.refused) e endings, sum_cons (λ (e : Ending). e.configured) e endings)

map_counted : (f : Counted → ℕ) (endings : List Ending) → map f (map (λ e. e.counted) endings) ≡ map (λ e. f e.counted) endings
map_counted f [] = refl
map_counted f (e ∷ endings) = ap (λ l. f e.counted ∷ l) (map_counted f endings)

-- what came is what all counted
pub came_of : (endings : List Ending) (receivers : List Counted) (taken refused configured came : ℕ) → receivers ≡ map (λ e. e.counted) endings
    → taken ≡ sum (map (λ c. c.taken) receivers) → refused ≡ sum (map (λ c. c.refused) receivers) → configured ≡ sum (map (λ e. e.configured) endings) → came ≡ (taken + refused) + configured → came ≡ counted_in endings
came_of endings receivers taken refused configured came r t u c m =
    omega (
      arith,
      sums_of endings,
      m,
      t ∙ ap sum (ap (map (λ (c : Counted). c.taken)) r ∙ map_counted (λ c. c.taken) endings),
      u ∙ ap sum (ap (map (λ (c : Counted). c.refused)) r ∙ map_counted (λ c. c.refused) endings),
      c,
    )

-- the frames of the life are what was put, and what was lost
frames_put : (rules : Rules) (named : Option Given) (output : Output) (rate every : ℕ) (seen log : List ReadStep) (put : List Message) (aligned : Result ℕ HubFault) (g : Given) → named ≡ Some g → HasLooked seen log
    → OnOk aligned (IsLaid rules named output rate every seen put) → IsLaidBut rules named output rate every seen put
    → ∥ ((lost : List (List ℕ)) × (frames_of g output rate every (life_of rules g log) ≡ bytes_of put ++ lost) × OnOk aligned (lost ≡ [])) ∥₁
frames_put rules named output rate every seen log put (Ok published) g is l laid but = ∥∥₁_map (laid_seen rules named output rate every seen log put l laid) (λ x.
    ([], subst (λ (k : Given). frames_of k output rate every (life_of rules k log) ≡ bytes_of put ++ []) (here named x.0 g x.1 is) (x.2 ∙ sym (append-nil (bytes_of put))), refl))
frames_put rules named output rate every seen log put (Err fault) g is l laid but = ∥∥₁_map (but_seen rules named output rate every seen log put l but) (λ x.
    (x.2.0, subst (λ (k : Given). frames_of k output rate every (life_of rules k log) ≡ bytes_of put ++ x.2.0) (here named x.0 g x.1 is) x.2.1, tt))

-- all rows that were due came out before each tick, and in the end of an Ok run
done_here : (rules : Rules) (named : Option Given) (seen log : List ReadStep) (outcome : Result Totals HubFault) (aligned : Result ℕ HubFault) (g : Given) → named ≡ Some g → HasLooked seen log
    → IfOk outcome (λ totals. aligned ≡ Ok totals.published) → OnOk aligned (IsDone rules named seen) → AreDone rules named seen
    → ∥ ((are_done (life_of rules g log) ≡ true) × OnOk outcome (is_done (life_of rules g log) ≡ true)) ∥₁
done_here rules named seen log (Ok totals) aligned g is l same done dones =
    let ended : IsDone rules named seen = subst (λ (r : Result ℕ HubFault). OnOk r (IsDone rules named seen)) same done in
    ∥∥₁_map (done_seen rules named seen log l ended) (λ x.
    let now = subst (λ (k : Given). (is_done (life_of rules k log) ≡ true) × (are_done (life_of rules k log) ≡ true)) (here named x.0 g x.1 is) x.2 in (now.1, now.0))
done_here rules named seen log (Err fault) aligned g is l same done dones = ∥∥₁_map (are_done_seen rules named seen log l dones) (λ x.
    (subst (λ (k : Given). are_done (life_of rules k log) ≡ true) (here named x.0 g x.1 is) x.2, tt))

-- an Ok run lost none
all_sent : {Took : List (List ℕ) → Type 0} (outcome : Result Totals HubFault) (aligned : Result ℕ HubFault) (complete : Bool) (failed : List ℕ) (put : List Message) (ended : Ended) (t : HasHandedOn Took put ended) (lost : List (List ℕ)) (Done : Type 0)
    → IfOk outcome (λ totals. aligned ≡ Ok totals.published) → OnOk outcome (ended ≡ AtEndMark) → OnOk outcome (complete ≡ true) → OnOk aligned (failed ≡ []) → OnOk aligned (lost ≡ []) → OnOk outcome Done
    → OnOk outcome ((complete ≡ true) × (failed ≡ []) × (t.rest ++ lost ≡ []) × Done)
all_sent (Ok totals) aligned complete failed put ended t lost Done same at c f l d =
    let none : lost ≡ [] = subst (λ (r : Result ℕ HubFault). OnOk r (lost ≡ [])) same l in
    let no : failed ≡ [] = subst (λ (r : Result ℕ HubFault). OnOk r (failed ≡ [])) same f in
    (c, no, ap (λ r. r ++ lost) (t.whole at).0 ∙ none, d)
all_sent (Err fault) aligned complete failed put ended t lost Done same at c f l d = tt

pub one_run : {S K : Type 0} (SaysOf : K → Sayings) (fits : K → ℕ → Arrival → Bool) (settings : Option K) (now : K) (rules : Rules) (named : Option Given) (output : Output) (rate every : ℕ)
    (told : S → List Heard → Type 0) (sources : List S) {Gave : List ℕ → Type 0} {Took : List (List ℕ) → Type 0} (before after : Found) (outcome : Result Totals HubFault)
    (seen joined log : List ReadStep) (complete : Bool) (endings : List Ending) (put : List Message) (aligned : Result ℕ HubFault) (ended : Ended)
    → settings ≡ Some now → HasLooked seen log → IsPrefix joined log → ∥ AreSaid (WasRead SaysOf fits settings) log ∥₁ → (complete ≡ true → came_in log ≡ counted_in endings)
    → AreFor (HasEndedOf told (λ s. AreBrought rules named s joined)) 0 sources endings → (complete ≡ true → length endings ≡ length sources)
    → OnOk aligned (IsLaid rules named output rate every seen put) → IsLaidBut rules named output rate every seen put → HasTicked Gave before.stored.counts after.stored.counts (ticks_of seen) aligned
    → OnOk aligned (IsDone rules named seen) → AreDone rules named seen → HasDevice before.standing after.standing aligned → HasHandedOn Took put ended → HasSinkCause ended before.failures after.failures
    → IfOk outcome (λ totals. aligned ≡ Ok totals.published) → IfOk aligned (λ published. published ≡ length (instants_of put)) → OnOk outcome (ended ≡ AtEndMark) → OnOk outcome (complete ≡ true)
    → IfOk outcome (λ totals. totals.receivers.items ≡ map (λ e. e.counted) endings) → fault_in outcome ≡ first_fault (first_of endings) complete aligned ended
    → (g : Given) → named ≡ Some g → ∥ IsOneRun rules (SaysOf now) g output rate every told sources Gave Took before after outcome ∥₁
one_run SaysOf fits settings now rules named output rate every told sources {Gave} {Took} before after outcome seen joined log complete endings put aligned ended
    is looked later said came received whole laid but ticked done dones device handed cause same many at all entries fault g name =
    let ticks : ticks_of log ≡ ticks_of seen = look_ticks seen log looked in
    ∥∥₁_elim (done_here rules named seen log outcome aligned g name looked same done dones) ∥∥₁_prop (λ d. ∥∥₁_elim (frames_put rules named output rate every seen log put aligned g name looked laid but) ∥∥₁_prop (λ f. ∥∥₁_elim (all_among told rules named g joined log 0 sources endings name later received) ∥∥₁_prop (λ r. ∥∥₁_map said (λ says.
    let own = own_at told (StandsAmong rules g log) 0 sources endings r in
    let one : complete ≡ true → IsOneLife rules (SaysOf now) g log (length endings) own =
    λ c. met SaysOf fits settings now is rules g log (length endings) own (λ s. log) says (λ s l. prefix_self log) (λ s l. subst (λ (n : ℕ). StandsAmong rules g log n (own s)) (omega arith) (own_among told (StandsAmong rules g log) 0 sources endings r s l))
    (own_sum told (StandsAmong rules g log) 0 sources endings r ∙ sym (came c)) in
    record {
      steps = log;
      is_life = makes_life SaysOf fits settings now is rules g [] log tt says;
      complete = complete;
      endings = endings;
      received = all_brought told rules g log complete 0 sources endings r (λ k l c. subst (λ (n : ℕ). brought n (life_of rules g log) ≡ own k) (omega arith) ((one c).all_brought k l));
      all_came = whole;
      failed = ticked.failed;
      ticked = subst (λ (ts : List (ℕ × List ℕ)). Gave (map (λ t. t.0) ts ++ ticked.failed)) (sym ticks) ticked.given;
      one_failed = ticked.one_failed;
      counts = subst (λ (ts : List (ℕ × List ℕ)). NeverFall before.stored.counts ts after.stored.counts) (sym ticks) ticked.stored;
      all_due = d.0;
      given = handed.given;
      rest = handed.rest ++ f.0;
      took = handed.took;
      sent = f.1 ∙ (ap (λ l. l ++ f.0) handed.first ∙ append_assoc handed.given handed.rest f.0);
      whole = all_sent outcome aligned complete ticked.failed put ended handed f.0 (is_done (life_of rules g log) ≡ true) same at all ticked.whole f.2 d.1;
      entries = entries;
      published = tells_popped g output rate every (life_of rules g log) put f.0 outcome aligned same many f.2 f.1;
      aligned = aligned;
      device = device;
      ended = ended;
      sink = cause;
      told_fault = fault;
    }))))
