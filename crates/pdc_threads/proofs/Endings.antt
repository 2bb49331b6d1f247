-- How receivers ended, on plain variables.
use Rattle.std.proofs.Common.{arith, ◌≡◌, ◌≤◌, ℕ, ◌+◌, Bool, true, List, [], ◌∷◌, ◌++◌, length, map, sum, drop, Option, None, Some, IfSome, refl, sym, ap, ◌∙◌, subst, append_assoc}
use lib.ListN.{length-drop}
use mathlib.Core.List.{IsPrefix}
use Rattle.std.proofs.Math.Logic.{∥∥₁_map}
use Rattle.std.proofs.lemmas.List.Sums.{sum-map, sum_by_push}
use Rattle.pdc_hub.specs.Faults.{IsOfReceiver}
use Rattle.pdc_hub.specs.Received.{AreBrought, EndsBy, HasReceived}
use Rattle.pdc_hub.proofs.Receiving.{among_prefix, brought_grows}
use Rattle.pdc_hub.specs.declared.fault.HubFault.{HubFault}
use Rattle.pdc_log.specs.Log.{brought, life_of}
use Rattle.pdc_hub.specs.declared.fault.HubFault.TheVariants.{SourceFault, SinkFault, NoMemory, CountsUsedUp, Device, Stuck}
use Rattle.pdc_life.specs.Answer.{ReadStep, Rules}
use Rattle.pdc_life.specs.Given.{Given}
use Rattle.pdc_ports.specs.Heard.{Heard, Gave, Idled, Ended, Failed, GaveUp, HasTold}
use Rattle.pdc_threads.specs.Ended.{AreFor, Ending, HasEndedAs, HaveJoined, ending_by, first_of, or_else}
use Rattle.pdc_threads.specs.declared.receivers.Counted.{Counted}

-- whether the hub was closed is not asked here
ends_by : (Closed : Type 0) (last : Heard) (fault : Option HubFault) → EndsBy Closed last fault → EndsBy (Unit {0}) last fault
ends_by Closed (Gave bytes) (Some fault) e = e
ends_by Closed (Gave bytes) None e = absurd e
ends_by Closed Idled (Some fault) e = absurd e
ends_by Closed Idled None e = tt
ends_by Closed Ended (Some fault) e = absurd e
ends_by Closed Ended None e = tt
ends_by Closed Failed (Some SourceFault) e = tt
ends_by Closed Failed (Some SinkFault) e = absurd e
ends_by Closed Failed (Some NoMemory) e = absurd e
ends_by Closed Failed (Some CountsUsedUp) e = absurd e
ends_by Closed Failed (Some Device) e = absurd e
ends_by Closed Failed (Some Stuck) e = absurd e
ends_by Closed Failed None e = absurd e
ends_by Closed GaveUp (Some SourceFault) e = absurd e
ends_by Closed GaveUp (Some SinkFault) e = absurd e
ends_by Closed GaveUp (Some NoMemory) e = absurd e
ends_by Closed GaveUp (Some CountsUsedUp) e = absurd e
ends_by Closed GaveUp (Some Device) e = absurd e
ends_by Closed GaveUp (Some Stuck) e = tt
ends_by Closed GaveUp None e = absurd e

-- what a receiver of a source ended by
pub ended_as : {S Closed : Type 0} (rules : Rules) (named : Option Given) (told : S → List Heard → Type 0) (seen : List ReadStep) (old new : S) (stream taken refused configured : ℕ) (fault : Option HubFault)
    → HasReceived (HasTold told old new) (AreBrought rules named stream seen) Closed taken refused configured fault → IfSome fault IsOfReceiver
    → HasEndedAs rules named told seen old stream (ending_by taken refused configured fault)
ended_as {Closed = Closed} rules named told seen old new stream taken refused configured fault h cause = (
  record {
    served = h.served;
    last = h.last;
    told = (new, h.told);
    own = h.own;
    are_served = h.are_served;
    are_brought = h.are_brought;
    ends = ends_by Closed h.last fault h.ends;
    taken_counted = h.taken_counted;
    refused_counted = h.refused_counted;
    all_counted = h.all_counted;
  },
  cause,
)

-- what it has stands among more, once more was seen
pub ended_seen : {S : Type 0} (rules : Rules) (named : Option Given) (told : S → List Heard → Type 0) (seen more : List ReadStep) (source : S) (stream : ℕ) (e : Ending)
    → IsPrefix seen more → HasEndedAs rules named told seen source stream e → HasEndedAs rules named told more source stream e
ended_seen rules named told seen more source stream e p h = (
  record {
    served = h.0.served;
    last = h.0.last;
    told = h.0.told;
    own = h.0.own;
    are_served = h.0.are_served;
    are_brought = λ g is. ∥∥₁_map (h.0.are_brought g is) (λ a. among_prefix h.0.own (brought stream (life_of rules g seen)) (brought stream (life_of rules g more)) a (brought_grows stream rules g seen more p));
    ends = h.0.ends;
    taken_counted = h.0.taken_counted;
    refused_counted = h.0.refused_counted;
    all_counted = h.0.all_counted;
  },
  h.1,
)

-- one more, for what stands at its place
pub for_more : {S E : Type 0} (Fits : S → ℕ → E → Type 0) (number : ℕ) (ss : List S) (es : List E) (s : S) (rest : List S) (e : E)
    → AreFor Fits number ss es → drop (length es) ss ≡ s ∷ rest → Fits s (number + length es) e → AreFor Fits number ss (es ++ e ∷ [])
for_more Fits number ss [] s rest e h d f = subst (λ l. AreFor Fits number l (e ∷ [])) (sym d) (subst (λ n. Fits s n e) (omega arith) f, tt)
for_more Fits number [] (x ∷ es) s rest e h d f = absurd h
for_more Fits number (y ∷ ss) (x ∷ es) s rest e h d f = (h.0, for_more Fits (number + 1) ss es s rest e h.1 d (subst (λ n. Fits s n e) (omega arith) f))

pub drop_past : {S E : Type 0} (ss : List S) (es : List E) (s : S) (rest : List S) (e : E) → drop (length es) ss ≡ s ∷ rest → drop (length (es ++ e ∷ [])) ss ≡ rest
drop_past ss [] s rest e d = ap (drop 1) d
drop_past [] (x ∷ es) s rest e d = absurd (omega (arith, ap length d))
drop_past (y ∷ ss) (x ∷ es) s rest e d = drop_past ss es s rest e d

pub for_on : {S E : Type 0} (Fits : S → ℕ → E → Type 0) (number : ℕ) (ss : List S) (es more : List E) (s : S) (rest : List S) (e : E)
    → more ≡ es ++ e ∷ [] → AreFor Fits number ss es → drop (length es) ss ≡ s ∷ rest → Fits s (number + length es) e → AreFor Fits number ss more
for_on Fits number ss es more s rest e m h d f = subst (λ l. AreFor Fits number ss l) (sym m) (for_more Fits number ss es s rest e h d f)

pub drop_on : {S E : Type 0} (ss : List S) (es more : List E) (s : S) (rest : List S) (e : E) → more ≡ es ++ e ∷ [] → drop (length es) ss ≡ s ∷ rest → drop (length more) ss ≡ rest
drop_on ss es more s rest e m d = ap (λ l. drop (length l) ss) m ∙ drop_past ss es s rest e d

-- they are no more than what they are for, and as many where nothing is left
pub for_few : {S E : Type 0} (Fits : S → ℕ → E → Type 0) (number : ℕ) (ss : List S) (es : List E) → AreFor Fits number ss es → length es ≤ length ss
for_few Fits number ss [] h = omega arith
for_few Fits number [] (e ∷ es) h = absurd h
for_few Fits number (s ∷ ss) (e ∷ es) h = omega (arith, for_few Fits (number + 1) ss es h.1)

pub for_all : {A B E : Type 0} (P : A → ℕ → B → Type 0) (Q : B → ℕ → E → Type 0) (R : A → ℕ → E → Type 0) (number other : ℕ) (xs : List A) (ys : List B) (es : List E)
    → ((a : A) (n : ℕ) (b : B) (m : ℕ) (e : E) → P a n b → Q b m e → R a n e) → AreFor P number xs ys → AreFor Q other ys es → AreFor R number xs es
for_all P Q R number other xs ys [] f p q = tt
for_all P Q R number other xs [] (e ∷ es) f p q = absurd q
for_all P Q R number other [] (b ∷ ys) (e ∷ es) f p q = absurd p
for_all P Q R number other (a ∷ xs) (b ∷ ys) (e ∷ es) f p q = (f a number b other e p.0 q.0, for_all P Q R (number + 1) (other + 1) xs ys es f p.1 q.1)

or_none : (fault : Option HubFault) → or_else fault None ≡ fault
or_none (Some fault) = refl
or_none None = refl

or_assoc : (a b c : Option HubFault) → or_else a (or_else b c) ≡ or_else (or_else a b) c
or_assoc (Some fault) b c = refl
or_assoc None b c = refl

first_more : (es : List Ending) (e : Ending) → first_of (es ++ e ∷ []) ≡ or_else (first_of es) e.fault
first_more [] e = or_none e.fault
first_more (x ∷ es) e = ap (or_else x.fault) (first_more es e) ∙ or_assoc x.fault (first_of es) e.fault

pub map_more : {A B : Type 0} (f : A → B) (xs : List A) (x : A) → map f (xs ++ x ∷ []) ≡ map f xs ++ f x ∷ []
map_more f [] x = refl
map_more f (y ∷ xs) x = ap (λ l. f y ∷ l) (map_more f xs x)

pub map_on : {A B : Type 0} (f : A → B) (xs more : List A) (x : A) (old rest ys : List B) → more ≡ xs ++ x ∷ [] → old ≡ f x ∷ rest → map f xs ++ old ≡ ys → map f more ++ rest ≡ ys
map_on f xs more x old rest ys m o e =
    ap (λ l. map f l ++ rest) m ∙ (ap (λ l. l ++ rest) (map_more f xs x) ∙ (append_assoc (map f xs) (f x ∷ []) rest ∙ (ap (λ l. map f xs ++ l) (sym o) ∙ e)))

pub is_either : (a b : Option HubFault) → IfSome a IsOfReceiver → IfSome b IsOfReceiver → IfSome (or_else a b) IsOfReceiver
is_either (Some fault) b p q = p
is_either None b p q = q

-- one more is counted
pub sum_pushed : {A : Type 0} (f : A → ℕ) (xs more : List A) (x : A) → more ≡ xs ++ x ∷ [] → sum (map f more) ≡ sum (map f xs) + f x
sum_pushed f xs more x m = ap (λ l. sum (map f l)) m ∙ (sum-map f (xs ++ x ∷ []) ∙ (sum_by_push f xs x ∙ ap (λ n. n + f x) (sym (sum-map f xs))))

-- the same by another word
for_same : {S E : Type 0} (Fits Other : S → ℕ → E → Type 0) (number : ℕ) (ss : List S) (es : List E) → ((s : S) (n : ℕ) (e : E) → Fits s n e → Other s n e) → AreFor Fits number ss es → AreFor Other number ss es
for_same Fits Other number ss [] f h = tt
for_same Fits Other number [] (e ∷ es) f h = absurd h
for_same Fits Other number (s ∷ ss) (e ∷ es) f h = (f s number e h.0, for_same Fits Other (number + 1) ss es f h.1)

pub joined_on : {H : Type 0} (Kept Now : H → ℕ → Ending → Type 0) (handles : List H) (handle : H) (old rest : List H) (counted more : List Counted) (configured most : ℕ) (fault later : Option HubFault) (before after : Bool) (ending : Ending)
    → ((h : H) (n : ℕ) (e : Ending) → Kept h n e → Now h n e)
    → old ≡ handle ∷ rest → later ≡ or_else fault ending.fault → HaveJoined Kept handles old counted configured fault before → ((n : ℕ) → Now handle n ending)
    → (after ≡ true → (before ≡ true) × (more ≡ counted ++ ending.counted ∷ [])) → most ≡ configured + ending.configured → HaveJoined Now handles rest more most later after
joined_on Kept Now handles handle old rest counted more configured most fault later before after ending grows o l h kept m n = record {
  endings = h.endings ++ ending ∷ [];
  are_kept = for_more Now 0 handles h.endings handle rest ending (for_same Kept Now 0 handles h.endings grows h.are_kept) (h.left ∙ o) (kept (0 + length h.endings));
  left = drop_past handles h.endings handle rest ending (h.left ∙ o);
  first = first_more h.endings ending ∙ (ap (λ f. or_else f ending.fault) h.first ∙ sym l);
  entries = λ t. (m t).1 ∙ (ap (λ l. l ++ ending.counted ∷ []) (h.entries (m t).0) ∙ sym (map_more (λ e. e.counted) h.endings ending));
  all_configured = λ t. omega (arith, n, h.all_configured (m t).0, sum_pushed (λ e. e.configured) h.endings (h.endings ++ ending ∷ []) ending refl);
}

-- where nothing is left, all were joined
pub joined_all : {H : Type 0} (Kept : H → ℕ → Ending → Type 0) (handles : List H) (counted : List Counted) (configured : ℕ) (fault : Option HubFault) (complete : Bool) (h : HaveJoined Kept handles [] counted configured fault complete) → length h.endings ≡ length handles
joined_all Kept handles counted configured fault complete h = omega (arith, for_few Kept 0 handles h.endings h.are_kept, sym (length-drop (length h.endings) handles) ∙ ap length h.left)

pub nothing_left : {X : Type 0} (l : List X) → length l ≡ 0 → l ≡ []
nothing_left [] h = refl
nothing_left (x ∷ xs) h = absurd (omega arith)

length_more : {A : Type 0} (xs : List A) (x : A) → length (xs ++ x ∷ []) ≡ length xs + 1
length_more [] x = omega arith
length_more (y ∷ xs) x = omega (arith, length_more xs x)

pub length_pushed : {A : Type 0} (xs more : List A) (x : A) → more ≡ xs ++ x ∷ [] → length more ≡ length xs + 1
length_pushed xs more x m = ap length m ∙ length_more xs x
