-- What a receiver heard so far, on plain variables.
use Rattle.std.proofs.Common.{if◌then◌else◌, arith, ◌≡◌, ◌==◌, ⊎_elim, inl, inr, ℕ, Bool, true, false, ◌+◌, List, [], ◌∷◌, ◌++◌, map, sum, Option, Result, Ok, Err, IfErr, IfOk, OnErr, drop, length, take, refl, sym, ap, ◌∙◌, subst, append-nil, append_assoc, length-append}
use Rattle.std.proofs.Math.Logic.{∥∥₁_elim, ∥∥₁_map, ∥∥₁_prop}
use Rattle.std.proofs.lemmas.Bool.Decides.{nat_tests}
use Rattle.std.proofs.lemmas.List.{take-append-le, take_all}
use Rattle.std.proofs.lemmas.List.Sums.{sum-map, sum_by_push}
use mathlib.Core.List.{IsPrefix}
use Rattle.pdc_life.specs.Answer.{ReadStep, Rules, ToArrive, ToPop, ToTick, answered, life_from}
use Rattle.pdc_life.specs.Arrival.{Arrival}
use Rattle.pdc_life.specs.Given.{Given}
use Rattle.pdc_life.specs.Life.{Entry}
use Rattle.pdc_life.specs.declared.outcome.Outcome.{Outcome}
use Rattle.pdc_life.specs.declared.outcome.Outcome.TheVariants.{Taken, Candidate, Known, Refused}
use Rattle.pdc_log.specs.Among.{IsAmong}
use Rattle.pdc_log.specs.Log.{HasAdded, brought, life_of}
use Rattle.pdc_log.proofs.Fronts.{prefix_self, prefix_trans}
use Rattle.pdc_ports.specs.Heard.{Heard, Gave, Idled, Ended, Failed, GaveUp, HasTold}
use Rattle.pdc_ports.specs.declared.numbered.Numbered.{Numbered}
use Rattle.pdc_hub.specs.declared.fault.HubFault.{HubFault}
use Rattle.pdc_hub.specs.declared.fault.HubFault.TheVariants.{CountsUsedUp}
use Rattle.pdc_hub.specs.Counted.{configured_by, refused_by, taken_by}
use Rattle.pdc_hub.specs.Faults.{IsOfDelivery}
use Rattle.pdc_hub.specs.Received.{AreBrought, AreServed, EndsBy, HasReceived, WasBrought}
use Rattle.pdc_hub.proofs.Replays.{here, life_append, life_of-snoc}

-- How a receiver stands between two datagrams.
pub record IsReceiving (Told : List Heard → Type 0) (Brought : List (List ℕ × Outcome) → Type 0) (taken refused configured : ℕ) : Type 0 where
  pub served : List Heard
  pub told : Told served
  pub own : List (List ℕ × Outcome)
  pub are_served : AreServed served own
  pub are_brought : Brought own
  pub taken_counted : taken ≡ sum (map (λ p. taken_by p.1) own)
  pub refused_counted : refused ≡ sum (map (λ p. refused_by p.1) own)
  pub all_counted : length own ≡ (taken + refused) + configured

sum_more : (f : List ℕ × Outcome → ℕ) (os : List (List ℕ × Outcome)) (o : List ℕ × Outcome) → sum (map f (os ++ o ∷ [])) ≡ sum (map f os) + f o
sum_more f os o = sum-map f (os ++ o ∷ []) ∙ (sum_by_push f os o ∙ ap (λ n. n + f o) (sym (sum-map f os)))

served_more : (hs : List Heard) (os : List (List ℕ × Outcome)) (bytes : List ℕ) (o : Outcome) → AreServed hs os → AreServed (hs ++ Gave bytes ∷ []) (os ++ (bytes, o) ∷ [])
served_more [] [] bytes o s = (refl, tt)
served_more [] (x ∷ os) bytes o s = absurd s
served_more (Gave b ∷ hs) [] bytes o s = absurd s
served_more (Gave b ∷ hs) (x ∷ os) bytes o s = (s.0, served_more hs os bytes o s.1)
served_more (Idled ∷ hs) os bytes o s = served_more hs os bytes o s
served_more (Ended ∷ hs) os bytes o s = absurd s
served_more (Failed ∷ hs) os bytes o s = absurd s
served_more (GaveUp ∷ hs) os bytes o s = absurd s

served_idle : (hs : List Heard) (os : List (List ℕ × Outcome)) → AreServed hs os → AreServed (hs ++ Idled ∷ []) os
served_idle [] [] s = tt
served_idle [] (x ∷ os) s = absurd s
served_idle (Gave b ∷ hs) [] s = absurd s
served_idle (Gave b ∷ hs) (x ∷ os) s = (s.0, served_idle hs os s.1)
served_idle (Idled ∷ hs) os s = served_idle hs os s
served_idle (Ended ∷ hs) os s = absurd s
served_idle (Failed ∷ hs) os s = absurd s
served_idle (GaveUp ∷ hs) os s = absurd s

-- lists among lists
pub among_more : {A : Type 0} (xs ys zs : List A) → IsAmong xs ys → IsAmong xs (ys ++ zs)
among_more [] ys zs h = tt
among_more (x ∷ xs) [] zs h = absurd h
among_more (x ∷ xs) (y ∷ ys) zs h = ⊎_elim (λ (a : (x ≡ y) × IsAmong xs ys). inl (a.0, among_more xs ys zs a.1)) (λ (b : IsAmong (x ∷ xs) ys). inr (among_more (x ∷ xs) ys zs b)) h

pub among_last : {A : Type 0} (xs ys : List A) (x : A) → IsAmong xs ys → IsAmong (xs ++ x ∷ []) (ys ++ x ∷ [])
among_last [] [] x h = inl (refl, tt)
among_last [] (y ∷ ys) x h = inr (among_last [] ys x tt)
among_last (z ∷ xs) [] x h = absurd h
among_last (z ∷ xs) (y ∷ ys) x h = ⊎_elim (λ (a : (z ≡ y) × IsAmong xs ys). inl (a.0, among_last xs ys x a.1)) (λ (b : IsAmong (z ∷ xs) ys). inr (among_last (z ∷ xs) ys x b)) h

pub among_prefix : {A : Type 0} (xs ys zs : List A) → IsAmong xs ys → IsPrefix ys zs → IsAmong xs zs
among_prefix {A = A} xs ys zs h p = subst (λ (l : List A). IsAmong xs l) p.1 (among_more xs ys p.0 h)

brought_if : (b : Bool) (xs : List (List ℕ × Outcome)) (x : List ℕ × Outcome) → IsPrefix xs (if b then xs ++ x ∷ [] else xs)
brought_if true xs x = (x ∷ [], refl)
brought_if false xs x = prefix_self xs

brought_step : (s : ℕ) (rules : Rules) (g : Given) (E : List Entry) (step : ReadStep) → IsPrefix (brought s E) (brought s (answered rules g E step ∷ E))
brought_step s rules g E (ToArrive t bytes arrival) = brought_if (t == s) (brought s E) (bytes, (rules g E t arrival).outcome)
brought_step s rules g E (ToTick now counts) = prefix_self (brought s E)
brought_step s rules g E ToPop = prefix_self (brought s E)

brought_from : (s : ℕ) (rules : Rules) (g : Given) (E : List Entry) (more : List ReadStep) → IsPrefix (brought s E) (brought s (life_from rules g E more))
brought_from s rules g E [] = prefix_self (brought s E)
brought_from s rules g E (step ∷ more) =
    let F = answered rules g E step ∷ E in
    prefix_trans (brought s E) (brought s F) (brought s (life_from rules g F more)) (brought_step s rules g E step) (brought_from s rules g F more)

-- what a stream brought in a beginning of a log begins what it brought
pub brought_grows : (s : ℕ) (rules : Rules) (g : Given) (front log : List ReadStep) → IsPrefix front log → IsPrefix (brought s (life_of rules g front)) (brought s (life_of rules g log))
brought_grows s rules g front log p = subst (λ (l : List ReadStep). IsPrefix (brought s (life_of rules g front)) (brought s (life_of rules g l))) p.1
    (subst (λ (E : List Entry). IsPrefix (brought s (life_of rules g front)) (brought s E)) (sym (life_append rules g [] front p.0)) (brought_from s rules g (life_of rules g front) p.0))

brought_own : (s : ℕ) (rules : Rules) (g : Given) (E : List Entry) (bytes : List ℕ) (arrival : Arrival)
    → brought s (answered rules g E (ToArrive s bytes arrival) ∷ E) ≡ brought s E ++ (bytes, (rules g E s arrival).outcome) ∷ []
brought_own s rules g E bytes arrival = let same : (s == s) ≡ true = grind (arith, nat_tests) in rw same refl

-- one datagram more
pub brought_on : (rules : Rules) (named : Option Given) (stream : ℕ) (bytes : List ℕ) (before after : List ReadStep) (outcome : Outcome) (own : List (List ℕ × Outcome))
    → AreBrought rules named stream before own → WasBrought rules named stream bytes before after outcome → AreBrought rules named stream after (own ++ (bytes, outcome) ∷ [])
brought_on rules named stream bytes before after outcome own h w g is =
    let d = w.added in
    ∥∥₁_elim (h g is) ∥∥₁_prop (λ (among : IsAmong own (brought stream (life_of rules g before))). ∥∥₁_map d.told
    (λ x.
    let answer : outcome ≡ (rules g (life_of rules g d.middle) stream w.arrival).outcome = subst (λ (h : Given). outcome ≡ (rules h (life_of rules h d.middle) stream w.arrival).outcome) (here named x.0 g x.1 is) x.2 in
    let now : brought stream (life_of rules g after) ≡ brought stream (life_of rules g d.middle) ++ (bytes, outcome) ∷ [] =
    ap (λ (l : List ReadStep). brought stream (life_of rules g l)) d.added ∙ (ap (brought stream) (life_of-snoc rules g d.middle (ToArrive stream bytes w.arrival)) ∙
    (brought_own stream rules g (life_of rules g d.middle) bytes w.arrival ∙ ap (λ (o : Outcome). brought stream (life_of rules g d.middle) ++ (bytes, o) ∷ []) (sym answer))) in
    subst (λ (l : List (List ℕ × Outcome)). IsAmong (own ++ (bytes, outcome) ∷ []) l) (sym now)
    (among_last own (brought stream (life_of rules g d.middle)) (bytes, outcome) (among_prefix own (brought stream (life_of rules g before)) (brought stream (life_of rules g d.middle)) among (brought_grows stream rules g before d.middle d.later)))))

-- where it was answered
pub was_brought : (rules : Rules) (named : Option Given) (stream : ℕ) (bytes : List ℕ) (before after : List ReadStep) (arrival : Arrival) (r : Result (Numbered Outcome) HubFault)
    → IfOk r (λ numbered. HasAdded rules named (ToArrive stream bytes arrival) before after numbered.step (λ g E. numbered.answer ≡ (rules g E stream arrival).outcome))
    → IfOk r (λ numbered. WasBrought rules named stream bytes before after numbered.answer)
was_brought rules named stream bytes before after arrival (Ok numbered) h = record { arrival = arrival; number = numbered.step; added = h }
was_brought rules named stream bytes before after arrival (Err fault) h = tt

-- what is refused as used up could not be delivered
pub of_delivery : {A : Type 0} (r : Result A HubFault) → OnErr r (r ≡ Err CountsUsedUp) → IfErr r IsOfDelivery
of_delivery (Ok x) h = tt
of_delivery {A = A} (Err fault) h = subst (λ (r : Result A HubFault). IfErr r IsOfDelivery) (sym h) tt

-- an answer is one of the three
counted_once : (o : Outcome) → (taken_by o + refused_by o) + configured_by o ≡ 1
counted_once Taken = omega arith
counted_once Candidate = omega arith
counted_once Known = omega arith
counted_once (Refused r) = omega arith

-- a source that said one thing more
pub told_on : {S : Type 0} (told : S → List Heard → Type 0) (old middle new : S) (heard : List Heard) (last : Heard) → HasTold told old middle heard
    → ((hs : List Heard) → told middle hs → told new (hs ++ last ∷ [])) → HasTold told old new (heard ++ last ∷ [])
told_on told old middle new heard last h more before t = subst (λ (hs : List Heard). told new hs) (append_assoc before heard (last ∷ [])) (more (before ++ heard) (h before t))

-- before the first
pub receiving_begins : {S : Type 0} (told : S → List Heard → Type 0) (source : S) (rules : Rules) (named : Option Given) (stream : ℕ) (seen : List ReadStep) (configured : ℕ) → configured ≡ 0
    → IsReceiving (HasTold told source source) (AreBrought rules named stream seen) 0 0 configured
receiving_begins told source rules named stream seen configured z = record {
  served = [];
  told = λ before t. subst (λ (hs : List Heard). told source hs) (sym (append-nil before)) t;
  own = [];
  are_served = tt;
  are_brought = λ g is. ∣ tt ∣₁;
  taken_counted = refl;
  refused_counted = refl;
  all_counted = omega (arith, z);
}

-- after a datagram, and after a pause
pub receiving_on : {S : Type 0} (told : S → List Heard → Type 0) (old middle new : S) (rules : Rules) (named : Option Given) (stream : ℕ) (before after : List ReadStep)
    (taken refused configured more_taken more_refused more_configured : ℕ) (bytes : List ℕ) (outcome : Outcome)
    → IsReceiving (HasTold told old middle) (AreBrought rules named stream before) taken refused configured → ((hs : List Heard) → told middle hs → told new (hs ++ Gave bytes ∷ []))
    → WasBrought rules named stream bytes before after outcome
    → more_taken ≡ taken + taken_by outcome → more_refused ≡ refused + refused_by outcome → more_configured ≡ configured + configured_by outcome
    → IsReceiving (HasTold told old new) (AreBrought rules named stream after) more_taken more_refused more_configured
receiving_on told old middle new rules named stream before after taken refused configured more_taken more_refused more_configured bytes outcome h more w t r k = record {
  served = h.served ++ Gave bytes ∷ [];
  told = told_on told old middle new h.served (Gave bytes) h.told more;
  own = h.own ++ (bytes, outcome) ∷ [];
  are_served = served_more h.served h.own bytes outcome h.are_served;
  are_brought = brought_on rules named stream bytes before after outcome h.own h.are_brought w;
  taken_counted = t ∙ (ap (λ n. n + taken_by outcome) h.taken_counted ∙ sym (sum_more (λ p. taken_by p.1) h.own (bytes, outcome)));
  refused_counted = r ∙ (ap (λ n. n + refused_by outcome) h.refused_counted ∙ sym (sum_more (λ p. refused_by p.1) h.own (bytes, outcome)));
  all_counted = omega (arith, length-append h.own ((bytes, outcome) ∷ []), h.all_counted, counted_once outcome, t, r, k);
}

pub receiving_idle : {S : Type 0} (told : S → List Heard → Type 0) (old middle new : S) (Brought : List (List ℕ × Outcome) → Type 0) (taken refused configured : ℕ)
    → IsReceiving (HasTold told old middle) Brought taken refused configured → ((hs : List Heard) → told middle hs → told new (hs ++ Idled ∷ []))
    → IsReceiving (HasTold told old new) Brought taken refused configured
receiving_idle told old middle new Brought taken refused configured h more = record {
  served = h.served ++ Idled ∷ [];
  told = told_on told old middle new h.served Idled h.told more;
  own = h.own;
  are_served = served_idle h.served h.own h.are_served;
  are_brought = h.are_brought;
  taken_counted = h.taken_counted;
  refused_counted = h.refused_counted;
  all_counted = h.all_counted;
}

-- where it ends
pub received : {S Closed : Type 0} (told : S → List Heard → Type 0) (old middle new : S) (Brought : List (List ℕ × Outcome) → Type 0) (taken refused configured : ℕ) (last : Heard) (fault : Option HubFault)
    → IsReceiving (HasTold told old middle) Brought taken refused configured → ((hs : List Heard) → told middle hs → told new (hs ++ last ∷ [])) → EndsBy Closed last fault
    → HasReceived (HasTold told old new) Brought Closed taken refused configured fault
received told old middle new Brought taken refused configured last fault h more ends = record {
  served = h.served;
  last = last;
  told = told_on told old middle new h.served last h.told more;
  own = h.own;
  are_served = h.are_served;
  are_brought = h.are_brought;
  ends = ends;
  taken_counted = h.taken_counted;
  refused_counted = h.refused_counted;
  all_counted = h.all_counted;
}

-- the buffer as the source left it
pub left_whole : (now buffer items : List ℕ) (len : ℕ) → now ≡ take len (buffer ++ drop (length buffer) items) → len ≡ length buffer → now ≡ buffer
left_whole now buffer items len e h = e ∙ (take-append-le len buffer (drop (length buffer) items) (omega (arith, h)) ∙ take_all len buffer (omega (arith, h)))
