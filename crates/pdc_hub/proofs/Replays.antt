-- Steps of a core, on plain variables.
use Rattle.std.proofs.Common.{arith, ◌≡◌, ℕ, suc, ◌+◌, Bool, true, List, [], ◌∷◌, ◌++◌, length, Option, Some, refl, sym, ap, ◌∙◌, subst, append_assoc, append-nil}
use Rattle.std.proofs.lemmas.Option.{same_Some}
use Rattle.std.proofs.lemmas.Grind.{common_steps}
use Rattle.std.proofs.Math.Logic.{∥∥₁_map}
use Rattle.std.specs.List.{list_all}
use mathlib.Core.List.{IsPrefix}
use Rattle.pdc_core.specs.Alike.{AreAlike}
use Rattle.pdc_core.specs.Step.{IsOf}
use Rattle.pdc_core.specs.declared.step.CoreStep.{CoreStep}
use Rattle.pdc_life.specs.Answer.{IsReadStep, ReadStep, Rules, ToArrive, ToPop, ToTick, answered, life_from}
use Rattle.pdc_life.specs.Arrival.{Arrival}
use Rattle.pdc_life.specs.Given.{Given}
use Rattle.pdc_life.specs.Life.{Entry}
use Rattle.pdc_log.specs.Log.{HasAdded, HasLooked, HasTurned, InTheLife, came_in, life_of, turned_in}
use Rattle.pdc_hub.specs.Replay.{AreOf, AreSaid, Follows, HasLogged, Lives, Records, Sayings}

-- one step more, at the end
life_after : (rules : Rules) (g : Given) (E : List Entry) (reads : List ReadStep) (read : ReadStep)
    → life_from rules g E (reads ++ read ∷ []) ≡ answered rules g (life_from rules g E reads) read ∷ life_from rules g E reads
life_after rules g E [] read = refl
life_after rules g E (r ∷ reads) read = life_after rules g (answered rules g E r ∷ E) reads read

pub life_of-snoc : (rules : Rules) (g : Given) (log : List ReadStep) (read : ReadStep) → life_of rules g (log ++ read ∷ []) ≡ answered rules g (life_of rules g log) read ∷ life_of rules g log
life_of-snoc rules g log read = life_after rules g [] log read

of_after : (steps : List CoreStep) (reads : List ReadStep) (step : CoreStep) (read : ReadStep)
    → IsOf step read → AreOf steps reads → AreOf (steps ++ step ∷ []) (reads ++ read ∷ [])
of_after [] [] step read is h = (is, tt)
of_after [] (r ∷ reads) step read is h = absurd h
of_after (s ∷ steps) [] step read is h = absurd h
of_after (s ∷ steps) (r ∷ reads) step read is h = (h.0, of_after steps reads step read is h.1)

said_after : (Says : Sayings) (reads : List ReadStep) (read : ReadStep) → IsReadStep Says read → AreSaid Says reads → AreSaid Says (reads ++ read ∷ [])
said_after Says [] read says h = (says, tt)
said_after Says (r ∷ reads) read says h = (h.0, said_after Says reads read says h.1)

-- at the start nothing is replayed
pub opened : (rules : Rules) (Says : Sayings) (named : Option Given) (Base State : Lives) (log : List ReadStep) (steps : List CoreStep) → log ≡ [] → steps ≡ [] → (g : Given) → named ≡ Some g → Base g [] → State g []
    → Records rules Says named Base State log steps
opened rules Says named Base State log steps z e g is b s = record {
  given = g;
  is_named = is;
  earlier = [];
  reads = [];
  parts = z;
  said = subst (λ (l : List ReadStep). AreSaid Says l) (sym z) tt;
  based = b;
  kept = subst (λ (l : List CoreStep). AreOf l []) (sym e) tt;
  reached = subst (λ (l : List ReadStep). State g (life_of rules g l)) (sym z) s;
}

-- a step that the state follows is replayed too
pub grown : (rules : Rules) (Says : Sayings) (named : Option Given) (Base State After : Lives) (log after : List ReadStep) (steps more : List CoreStep) (step : CoreStep) (read : ReadStep)
    → after ≡ log ++ read ∷ [] → more ≡ steps ++ step ∷ [] → IsOf step read → IsReadStep Says read → Follows rules State After read
    → Records rules Says named Base State log steps → Records rules Says named Base After after more
grown rules Says named Base State After log after steps more step read a e is says follows r = record {
  given = r.given;
  is_named = r.is_named;
  earlier = r.earlier;
  reads = r.reads ++ read ∷ [];
  parts = a ∙ (ap (λ l. l ++ read ∷ []) r.parts ∙ append_assoc r.earlier r.reads (read ∷ []));
  said = subst (λ (l : List ReadStep). AreSaid Says l) (sym a) (said_after Says log read says r.said);
  based = r.based;
  kept = subst (λ (l : List CoreStep). AreOf l (r.reads ++ read ∷ [])) (sym e) (of_after steps r.reads step read is r.kept);
  reached = subst (λ (l : List ReadStep). After r.given (life_of rules r.given l)) (sym a) (subst (λ (l : List Entry). After r.given l) (sym (life_of-snoc rules r.given log read)) (follows r.given (life_of rules r.given log) r.reached));
}

-- the base is brought up to the state
pub rebased : (rules : Rules) (Says : Sayings) (named : Option Given) (Base State After : Lives) (log : List ReadStep) (steps none : List CoreStep)
    → none ≡ [] → ((g : Given) (E : List Entry) → State g E → After g E) → Records rules Says named Base State log steps
    → Records rules Says named After State log none
rebased rules Says named Base State After log steps none e follows r = record {
  given = r.given;
  is_named = r.is_named;
  earlier = log;
  reads = [];
  parts = sym (append-nil log);
  said = r.said;
  based = follows r.given (life_of rules r.given log) r.reached;
  kept = subst (λ (l : List CoreStep). AreOf l []) (sym e) tt;
  reached = r.reached;
}

-- base and state stand for lives that begin with the same
pub alike : (rules : Rules) (Says : Sayings) (named : Option Given) (Base State : Lives) (log : List ReadStep) (steps : List CoreStep) → Records rules Says named Base State log steps → AreAlike Base State
alike rules Says named Base State log steps r = record {
  given = r.given;
  life = life_of rules r.given r.earlier;
  stands = r.based;
  other_life = life_of rules r.given log;
  other_stands = r.reached;
}

-- what is named is one thing
pub here : {S : Type 0} (named : Option S) (a b : S) → named ≡ Some a → named ≡ Some b → a ≡ b
here named a b p q = same_Some a b (sym p ∙ q)

-- what is true of whatever life the core stands for is true of the life of the log
pub told_in : (rules : Rules) (Says : Sayings) (named : Option Given) (Base State : Lives) (log : List ReadStep) (steps : List CoreStep) (Told : Given → List Entry → Type 0)
    → ((g : Given) (E : List Entry) → State g E → Told g E) → Records rules Says named Base State log steps → (g : Given) → named ≡ Some g → Told g (life_of rules g log)
told_in rules Says named Base State log steps Told holds r g is =
    subst (λ (d : Given). Told d (life_of rules d log)) (here named r.given g r.is_named is) (holds r.given (life_of rules r.given log) r.reached)

-- so it is told of what was added
pub has_added : (rules : Rules) (Says : Sayings) (named : Option Given) (Base State : Lives) (log after before seen : List ReadStep) (steps : List CoreStep) (read : ReadStep) (number : ℕ) (Told : Given → List Entry → Type 0)
    → HasLogged read log after before seen → number ≡ length log → ((g : Given) (E : List Entry) → State g E → Told g E)
    → ∥ Records rules Says named Base State log steps ∥₁ → HasAdded rules named read before seen number Told
has_added rules Says named Base State log after before seen steps read number Told l n holds r = record {
  middle = log;
  later = l.later;
  added = l.sees ∙ l.added;
  numbered = n;
  told = ∥∥₁_map r (λ x. (x.given, x.is_named, holds x.given (life_of rules x.given log) x.reached));
}

pub all_more : {E : Type 0} (test : E → Bool) (es more : List E) (e : E) → more ≡ es ++ e ∷ [] → list_all test es ≡ true → test e ≡ true → list_all test more ≡ true
all_more test es more e is h may = grind (arith, common_steps)

-- what is counted of the log
pub came_after : (log : List ReadStep) (s : ℕ) (bytes : List ℕ) (arrival : Arrival) → came_in (log ++ ToArrive s bytes arrival ∷ []) ≡ suc (came_in log)
came_after [] s bytes arrival = refl
came_after (ToArrive t b a ∷ log) s bytes arrival = ap suc (came_after log s bytes arrival)
came_after (ToTick now counts ∷ log) s bytes arrival = came_after log s bytes arrival
came_after (ToPop ∷ log) s bytes arrival = came_after log s bytes arrival

pub came_stays : (log : List ReadStep) (step : ReadStep) → came_in (step ∷ []) ≡ 0 → came_in (log ++ step ∷ []) ≡ came_in log
came_stays [] step h = h
came_stays (ToArrive t b a ∷ log) step h = ap suc (came_stays log step h)
came_stays (ToTick now counts ∷ log) step h = came_stays log step h
came_stays (ToPop ∷ log) step h = came_stays log step h

pub turned_append : (log more : List ReadStep) → turned_in (log ++ more) ≡ turned_in log + turned_in more
turned_append [] more = omega arith
turned_append (ToArrive t b a ∷ log) more = turned_append log more
turned_append (ToTick now counts ∷ log) more = omega (arith, turned_append log more)
turned_append (ToPop ∷ log) more = omega (arith, turned_append log more)

pub life_append : (rules : Rules) (g : Given) (E : List Entry) (log more : List ReadStep) → life_from rules g E (log ++ more) ≡ life_from rules g (life_from rules g E log) more
life_append rules g E [] more = refl
life_append rules g E (r ∷ log) more = life_append rules g (answered rules g E r ∷ E) log more

pub looked : (before log seen : List ReadStep) → IsPrefix before log → turned_in before ≡ turned_in log → seen ≡ log → HasLooked before seen
looked before log seen p n e = record {
  later = subst (λ (l : List ReadStep). IsPrefix before l) (sym e) p;
  alone = ap turned_in e ∙ sym n;
}

pub has_turned : (rules : Rules) (Says : Sayings) (named : Option Given) (Base State : Lives) (log after before seen : List ReadStep) (steps : List CoreStep) (read : ReadStep) (number : ℕ) (Told : Given → List Entry → Type 0)
    → HasLogged read log after before seen → turned_in before ≡ turned_in log → number ≡ length log → ((g : Given) (E : List Entry) → State g E → Told g E)
    → ∥ Records rules Says named Base State log steps ∥₁ → HasTurned rules named read before seen number Told
has_turned rules Says named Base State log after before seen steps read number Told l same n holds r = record {
  added = record {
    middle = log;
    later = l.later;
    added = l.sees ∙ l.added;
    numbered = n;
    told = ∥∥₁_map r (λ x. (x.given, x.is_named, holds x.given (life_of rules x.given log) x.reached));
  };
  alone = sym same;
}

-- what is told of the life of the log
pub told_now : (rules : Rules) (Says : Sayings) (named : Option Given) (Base State : Lives) (log seen : List ReadStep) (steps : List CoreStep) (Told : Given → List Entry → Type 0)
    → seen ≡ log → ((g : Given) (E : List Entry) → State g E → Told g E) → ∥ Records rules Says named Base State log steps ∥₁ → InTheLife rules named seen Told
told_now rules Says named Base State log seen steps Told e holds r =
    subst (λ (l : List ReadStep). InTheLife rules named l Told) (sym e) (∥∥₁_map r (λ x. (x.given, x.is_named, holds x.given (life_of rules x.given log) x.reached)))

pub all_said : (rules : Rules) (Says : Sayings) (named : Option Given) (Base State : Lives) (log seen : List ReadStep) (steps : List CoreStep) → seen ≡ log
    → ∥ Records rules Says named Base State log steps ∥₁ → ∥ AreSaid Says seen ∥₁
all_said rules Says named Base State log seen steps e r = ∥∥₁_map r (λ x. subst (λ (l : List ReadStep). AreSaid Says l) (sym e) x.said)

-- the numbers of a step more
pub came_more : (log after : List ReadStep) (s : ℕ) (bytes : List ℕ) (arrival : Arrival) → after ≡ log ++ ToArrive s bytes arrival ∷ [] → came_in after ≡ came_in log + 1
came_more log after s bytes arrival e = omega (arith, ap came_in e, came_after log s bytes arrival)

pub turned_same : (log after : List ReadStep) (step : ReadStep) → turned_in (step ∷ []) ≡ 0 → after ≡ log ++ step ∷ [] → turned_in after ≡ turned_in log
turned_same log after step z e = omega (arith, ap turned_in e, turned_append log (step ∷ []), z)

pub turned_more : (log after : List ReadStep) (step : ReadStep) → turned_in (step ∷ []) ≡ 1 → after ≡ log ++ step ∷ [] → turned_in after ≡ turned_in log + 1
turned_more log after step z e = omega (arith, ap turned_in e, turned_append log (step ∷ []), z)

pub came_same : (log after : List ReadStep) (step : ReadStep) → came_in (step ∷ []) ≡ 0 → after ≡ log ++ step ∷ [] → came_in after ≡ came_in log
came_same log after step z e = ap came_in e ∙ came_stays log step z
