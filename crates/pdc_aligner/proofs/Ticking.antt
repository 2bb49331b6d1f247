-- The ticks of the log, step by step.
use Rattle.std.proofs.Common.{arith, ◌≡◌, ℕ, Bool, true, false, List, [], ◌∷◌, ◌++◌, map, Option, Result, Ok, Err, OnOk, if◌then◌else◌, refl, sym, ap, ◌∙◌, subst, append_assoc, append-nil}
use mathlib.Core.List.{IsPrefix}
use Rattle.pdc_life.specs.Answer.{ReadStep, Rules, ToArrive, ToPop, ToTick}
use Rattle.pdc_life.specs.Given.{Given}
use Rattle.pdc_life.specs.Life.{Entry}
use Rattle.pdc_log.specs.Log.{HasLooked, HasTurned, ticks_of, turned_in}
use Rattle.pdc_hub.specs.declared.fault.HubFault.{HubFault}
use Rattle.pdc_hub.proofs.Replays.{turned_append}
use Rattle.pdc_aligner.specs.Turns.{HasGiven, HasTicked, HasTickedOnce, NeverFall, NoneFalls}

ticks_append : (log more : List ReadStep) → ticks_of (log ++ more) ≡ ticks_of log ++ ticks_of more
ticks_append [] more = refl
ticks_append (ToArrive s bytes arrival ∷ log) more = ticks_append log more
ticks_append (ToTick now counts ∷ log) more = ap (λ l. (now, counts) ∷ l) (ticks_append log more)
ticks_append (ToPop ∷ log) more = ticks_append log more

no_ticks : (more : List ReadStep) → turned_in more ≡ 0 → ticks_of more ≡ []
no_ticks [] n = refl
no_ticks (ToArrive s bytes arrival ∷ more) n = no_ticks more n
no_ticks (ToTick now counts ∷ more) n = absurd (omega (arith, n))
no_ticks (ToPop ∷ more) n = absurd (omega (arith, n))

-- where no turn came between
ticks_same : (before after : List ReadStep) → IsPrefix before after → turned_in after ≡ turned_in before → ticks_of after ≡ ticks_of before
ticks_same before after p n =
    let none : turned_in p.0 ≡ 0 = omega (arith, n, ap turned_in p.1, turned_append before p.0) in
    ap ticks_of (sym p.1) ∙ (ticks_append before p.0 ∙ (ap (λ l. ticks_of before ++ l) (no_ticks p.0 none) ∙ append-nil (ticks_of before)))

pub look_ticks : (before after : List ReadStep) → HasLooked before after → ticks_of after ≡ ticks_of before
look_ticks before after l = ticks_same before after l.later l.alone

turn_ticks : (rules : Rules) (named : Option Given) (step : ReadStep) (before after : List ReadStep) (number : ℕ) (Told : Given → List Entry → Type 0) → HasTurned rules named step before after number Told
    → ticks_of after ≡ ticks_of before ++ ticks_of (step ∷ [])
turn_ticks rules named step before after number Told t =
    ap ticks_of t.added.added ∙ (ticks_append t.added.middle (step ∷ []) ∙ ap (λ l. l ++ ticks_of (step ∷ [])) (ticks_same before t.added.middle t.added.later t.alone))

-- a pop is no tick,
pub pop_ticks : (rules : Rules) (named : Option Given) (before after : List ReadStep) (number : ℕ) (Told : Given → List Entry → Type 0) → HasTurned rules named ToPop before after number Told → ticks_of after ≡ ticks_of before
pop_ticks rules named before after number Told t = turn_ticks rules named ToPop before after number Told t ∙ append-nil (ticks_of before)

always : {T : Type 0} (r : Result T HubFault) → OnOk r (true ≡ true)
always (Ok x) = refl
always (Err fault) = tt

-- and a tick is one
pub ticked_once : {T : Type 0} (rules : Rules) (named : Option Given) (now : ℕ) (counts stored : List ℕ) (before middle after : List ReadStep) (number : ℕ) (Told : Given → List Entry → Type 0) (r : Result T HubFault)
    → HasTurned rules named (ToTick now counts) before middle number Told → ticks_of after ≡ ticks_of middle → stored ≡ counts → HasTickedOnce now stored (ticks_of before) (ticks_of after) r
ticked_once rules named now counts stored before middle after number Told r t e s = record {
  done = true;
  added = e ∙ (turn_ticks rules named (ToTick now counts) before middle number Told t ∙ ap (λ (c : List ℕ). ticks_of before ++ (now, c) ∷ []) (sym s));
  whole = always r;
}

-- none was where it failed before
pub ticked_none : {T : Type 0} (now : ℕ) (counts : List ℕ) (before after : List ReadStep) (fault : HubFault) → HasLooked before after → HasTickedOnce {T = T} now counts (ticks_of before) (ticks_of after) (Err fault)
ticked_none now counts before after fault l = record { done = false; added = look_ticks before after l; whole = tt }

-- counts that never fall
pub falls_not : (a b c : List ℕ) → NoneFalls a b → NoneFalls b c → NoneFalls a c
falls_not a b c p q column = omega (arith, p column, q column)

never_on : (first : List ℕ) (ticks : List (ℕ × List ℕ)) (middle last : List ℕ) → NeverFall first ticks middle → NoneFalls middle last → NeverFall first ticks last
never_on first [] middle last h n = falls_not first middle last h n
never_on first (t ∷ ticks) middle last h n = (h.0, never_on t.1 ticks middle last h.1 n)

never_more : (first : List ℕ) (ticks : List (ℕ × List ℕ)) (middle last : List ℕ) (now : ℕ) → NeverFall first ticks middle → NoneFalls middle last → NeverFall first (ticks ++ (now, last) ∷ []) last
never_more first [] middle last now h n = (falls_not first middle last h n, λ column. omega arith)
never_more first (t ∷ ticks) middle last now h n = (h.0, never_more t.1 ticks middle last now h.1 n)

-- what the ticker gave
given_on : {K : Type 0} (gave : K → List ℕ → Type 0) (old middle new : K) (nows : List ℕ) (now : ℕ) → HasGiven gave old middle nows
    → ((ns : List ℕ) → gave middle ns → gave new (ns ++ now ∷ [])) → HasGiven gave old new (nows ++ now ∷ [])
given_on gave old middle new nows now h more before g = subst (λ (ns : List ℕ). gave new ns) (append_assoc before nows (now ∷ [])) (more (before ++ nows) (h before g))

pub given_same : {K : Type 0} (gave : K → List ℕ → Type 0) (old middle new : K) (nows : List ℕ) → HasGiven gave old middle nows
    → ((ns : List ℕ) → gave middle ns → gave new ns) → HasGiven gave old new nows
given_same gave old middle new nows h same before g = same (before ++ nows) (h before g)

given_none : {K : Type 0} (gave : K → List ℕ → Type 0) (old : K) → HasGiven gave old old []
given_none gave old before g = subst (λ (ns : List ℕ). gave old ns) (sym (append-nil before)) g

-- How the ticks stand between two of them.
pub record IsTicking (Gave : List ℕ → Type 0) (first last : List ℕ) (ticks : List (ℕ × List ℕ)) : Type 0 where
  pub given : Gave (map (λ t. t.0) ticks)
  pub stored : NeverFall first ticks last

pub ticking_begins : {K : Type 0} (gave : K → List ℕ → Type 0) (ticker : K) (counts : List ℕ) (front : List ReadStep) → front ≡ [] → IsTicking (HasGiven gave ticker ticker) counts counts (ticks_of front)
ticking_begins gave ticker counts front e =
    subst (λ (f : List ReadStep). IsTicking (HasGiven gave ticker ticker) counts counts (ticks_of f)) (sym e) (record { given = given_none gave ticker; stored = λ column. omega arith })

map_more : (ticks : List (ℕ × List ℕ)) (now : ℕ) (counts : List ℕ) → map (λ t. t.0) (ticks ++ (now, counts) ∷ []) ≡ map (λ t. t.0) ticks ++ now ∷ []
map_more [] now counts = refl
map_more (t ∷ ticks) now counts = ap (λ (l : List ℕ). t.0 ∷ l) (map_more ticks now counts)

-- one tick more,
pub ticking_on : {K T : Type 0} (gave : K → List ℕ → Type 0) (old middle asked new : K) (first counts more : List ℕ) (ticks after : List (ℕ × List ℕ)) (now : ℕ) (x : T)
    → IsTicking (HasGiven gave old middle) first counts ticks → ((ns : List ℕ) → gave middle ns → gave asked (ns ++ now ∷ [])) → ((ns : List ℕ) → gave asked ns → gave new ns)
    → NoneFalls counts more → HasTickedOnce {T = T} now more ticks after (Ok x) → IsTicking (HasGiven gave old new) first more after
ticking_on gave old middle asked new first counts more ticks after now x h next same falls t =
    let is : after ≡ ticks ++ (now, more) ∷ [] = t.added ∙ ap (λ (b : Bool). if b then ticks ++ (now, more) ∷ [] else ticks) t.whole in
    subst (λ (l : List (ℕ × List ℕ)). IsTicking (HasGiven gave old new) first more l) (sym is) record {
      given = subst (λ (l : List ℕ). HasGiven gave old new l) (sym (map_more ticks now more))
          (given_same gave old asked new (map (λ t. t.0) ticks ++ now ∷ []) (given_on gave old middle asked (map (λ t. t.0) ticks) now h.given next) same);
      stored = never_more first ticks counts more now h.stored falls;
    }

-- and one that failed, which was a step or not
failed_by : {K T : Type 0} (gave : K → List ℕ → Type 0) (old new : K) (first counts more : List ℕ) (ticks after : List (ℕ × List ℕ)) (now : ℕ) (fault : HubFault) (done : Bool)
    → HasGiven gave old new (map (λ t. t.0) ticks ++ now ∷ []) → NeverFall first ticks counts → NoneFalls counts more → after ≡ (if done then ticks ++ (now, more) ∷ [] else ticks)
    → HasTicked {T = T} (HasGiven gave old new) first more after (Err fault)
failed_by {T = T} gave old new first counts more ticks after now fault true g s falls is =
    subst (λ (l : List (ℕ × List ℕ)). HasTicked {T = T} (HasGiven gave old new) first more l (Err fault)) (sym is) record {
      failed = [];
      given = subst (λ (l : List ℕ). HasGiven gave old new l) (sym (append-nil (map (λ t. t.0) (ticks ++ (now, more) ∷ [])) ∙ map_more ticks now more)) g;
      one_failed = omega arith;
      whole = tt;
      stored = never_more first ticks counts more now s falls;
    }
failed_by {T = T} gave old new first counts more ticks after now fault false g s falls is =
    subst (λ (l : List (ℕ × List ℕ)). HasTicked {T = T} (HasGiven gave old new) first more l (Err fault)) (sym is) record {
      failed = now ∷ [];
      given = g;
      one_failed = omega arith;
      whole = tt;
      stored = never_on first ticks counts more s falls;
    }

pub ticking_failed : {K T U : Type 0} (gave : K → List ℕ → Type 0) (old middle asked new : K) (first counts more : List ℕ) (ticks after : List (ℕ × List ℕ)) (now : ℕ) (fault : HubFault)
    → IsTicking (HasGiven gave old middle) first counts ticks → ((ns : List ℕ) → gave middle ns → gave asked (ns ++ now ∷ [])) → ((ns : List ℕ) → gave asked ns → gave new ns)
    → NoneFalls counts more → HasTickedOnce {T = T} now more ticks after (Err fault) → HasTicked {T = U} (HasGiven gave old new) first more after (Err fault)
ticking_failed {U = U} gave old middle asked new first counts more ticks after now fault h next same falls t =
    failed_by {T = U} gave old new first counts more ticks after now fault t.done (given_same gave old asked new (map (λ t. t.0) ticks ++ now ∷ []) (given_on gave old middle asked (map (λ t. t.0) ticks) now h.given next) same) h.stored falls t.added

-- the ticker gave no more
pub ticking_ends : {K T : Type 0} (gave : K → List ℕ → Type 0) (old middle new : K) (first last : List ℕ) (ticks : List (ℕ × List ℕ)) (x : T)
    → IsTicking (HasGiven gave old middle) first last ticks → ((ns : List ℕ) → gave middle ns → gave new ns) → HasTicked {T = T} (HasGiven gave old new) first last ticks (Ok x)
ticking_ends gave old middle new first last ticks x h same = record {
  failed = [];
  given = subst (λ (l : List ℕ). HasGiven gave old new l) (sym (append-nil (map (λ t. t.0) ticks))) (given_same gave old middle new (map (λ t. t.0) ticks) h.given same);
  one_failed = omega arith;
  whole = refl;
  stored = h.stored;
}

-- what failed behind the ticks
pub ticked_stuck : {T U : Type 0} (Gave : List ℕ → Type 0) (first last : List ℕ) (ticks : List (ℕ × List ℕ)) (r : Result T HubFault) (fault : HubFault) → HasTicked Gave first last ticks r → HasTicked {T = U} Gave first last ticks (Err fault)
ticked_stuck Gave first last ticks r fault h = record { failed = h.failed; given = h.given; one_failed = h.one_failed; whole = tt; stored = h.stored }
