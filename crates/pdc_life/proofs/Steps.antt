-- What a step of a life took and brought, and what holds of a life before its last steps.
use Rattle.pdc_life.proofs.Names.{[], ◌++◌, ◌∷◌, ◌≡◌, AllByRecursion, Answer, AreSound, Arrival, Arrive, Candidate, cond_both, Contains, Data, Entry, eqb, filter, Given, is_candidate, is_of_column, is_taken, IsLife, IsRowOfTick, IsRun, IsTicked, Layout, List, map, Option, refl, RowView, Rules, SectionFields, sections_at, Stamp, subst, Take, take_at, Taken, Tick, ℕ}
use Rattle.pdc_life.proofs.Lists.{accepted_is, by_each, same_number, taken_is}

-- what was taken at a step
pub at_take : (P : Take → Type 0) (e : Entry)
    → ((s : ℕ) (bytes : List ℕ) (i quality : ℕ) (payload : List ℕ) (answer : Answer) → e ≡ Arrive s bytes (Data i quality payload) answer
    → answer.outcome ≡ Taken
    → P (record { stream = s; instant = i; cells = answer.cells })) → AllByRecursion P (take_at e)
at_take P (Arrive s bytes (Data i quality payload) answer) k =
    cond_both (is_taken answer.outcome) (record { stream = s; instant = i; cells = answer.cells } ∷ []) [] (AllByRecursion P)
    (λ taken. (k s bytes i quality payload answer refl (taken_is answer.outcome taken), tt)) (λ not. tt)
at_take P e k = tt

-- the sections of a column among those of a layout
pub of_column : (c : ℕ) (P : SectionFields → Type 0) (parts : List (ℕ × SectionFields))
    → AllByRecursion (λ (part : ℕ × SectionFields). part.0 ≡ c → P part.1) parts
    → AllByRecursion P (map (λ (part : ℕ × SectionFields). part.1) (filter (is_of_column c) parts))
of_column c P [] a = tt
of_column c P (part ∷ parts) a =
    cond_both (eqb part.0 c) (part ∷ filter (is_of_column c) parts) (filter (is_of_column c) parts)
    (λ (ps : List (ℕ × SectionFields)). AllByRecursion P (map (λ (p : ℕ × SectionFields). p.1) ps))
    (λ mine. (a.0 (same_number part.0 c mine), of_column c P parts a.1)) (λ other. of_column c P parts a.1)

-- what a step brought for a column
pub at_layout : (P : SectionFields → Type 0) (c : ℕ) (e : Entry)
    → ((s : ℕ) (bytes : List ℕ) (stamp : Option Stamp) (sections : List (ℕ × SectionFields)) (answer : Answer)
    → e ≡ Arrive s bytes (Layout stamp sections) answer → answer.outcome ≡ Candidate
    → (part : ℕ × SectionFields) → Contains sections part → part.0 ≡ c → P part.1) → AllByRecursion P (sections_at c e)
at_layout P c (Arrive s bytes (Layout stamp sections) answer) k =
    cond_both (is_candidate answer.outcome) (map (λ (part : ℕ × SectionFields). part.1) (filter (is_of_column c) sections)) [] (AllByRecursion P)
    (λ accepted. of_column c P sections (by_each _ sections (k s bytes stamp sections answer refl (accepted_is answer.outcome accepted)))) (λ not. tt)
at_layout P c e k = tt

-- a life, a run without its last step, and without some of them
pub life_before : (rules : Rules) (Says : ℕ → List ℕ → Arrival → Type 0) (g : Given) (e : Entry) (E : List Entry) → IsLife rules Says g (e ∷ E)
    → IsLife rules Says g E
life_before rules Says g (Arrive s bytes arrival answer) E life = life.2
life_before rules Says g e E life = life.1

pub run_before : (g : Given) (e : Entry) (E : List Entry) → AreSound g (e ∷ E) → AreSound g E
run_before g (Arrive s bytes arrival answer) E run = run.1
run_before g e E run = run

pub ticked_before : (g : Given) (e : Entry) (E : List Entry) → IsTicked g (e ∷ E) → IsTicked g E
ticked_before g (Arrive s bytes arrival answer) E run = run
ticked_before g e E run = run.1

pub earlier : (P : List Entry → Type 0) → ((e : Entry) (E : List Entry) → P (e ∷ E) → P E) → (later E : List Entry) → P (later ++ E) → P E
earlier P before [] E h = h
earlier P before (e ∷ later) E h = earlier P before later E (before e (later ++ E) h)

-- the run before the tick that closed a row
pub run_of_tick : (g : Given) (E : List Entry) (row : RowView) (t : IsRowOfTick g E row) → IsRun g E → IsRun g t.before
run_of_tick g E row t run =
    let step : (e : Entry) (F : List Entry) → IsRun g (e ∷ F) → IsRun g F =
    λ e F h. record { ticked = ticked_before g e F h.ticked; sound = run_before g e F h.sound } in
    step (Tick t.now t.counts t.answer) t.before (earlier (IsRun g) step t.later (Tick t.now t.counts t.answer ∷ t.before) (subst (IsRun g) t.stands run))
