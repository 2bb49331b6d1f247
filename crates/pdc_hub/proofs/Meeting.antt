-- Once all receivers and who aligns have met: one life, in which each stream brought what its receiver handed in.
use Rattle.std.proofs.Common.{if◌then◌else◌, arith, ◌≡◌, ◌==◌, ◌≤◌, ◌<◌, ◌⊎◌, ⊎_elim, inl, inr, ℕ, zero, suc, Bool, true, false, ◌+◌, List, [], ◌∷◌, ◌++◌, length, Option, Some, refl, sym, subst, length-append}
use Rattle.std.proofs.lemmas.Bool.Decides.{nat_tests}
use mathlib.Core.List.{IsPrefix}
use Rattle.pdc_life.specs.Answer.{IsLife, ReadStep, Rules, ToArrive, ToPop, ToTick, answered, life_from}
use Rattle.pdc_life.specs.Arrival.{Arrival}
use Rattle.pdc_life.specs.Given.{Given}
use Rattle.pdc_life.specs.Life.{Answer, Arrive, Entry, Pop, Tick}
use Rattle.pdc_life.specs.declared.outcome.Outcome.{Outcome}
use Rattle.pdc_log.specs.Among.{IsAmong}
use Rattle.pdc_log.specs.Log.{brought, came_in, life_of}
use Rattle.pdc_hub.specs.Replay.{AreSaid, Sayings, WasRead}
use Rattle.pdc_hub.proofs.Receiving.{among_prefix, brought_grows}
use Rattle.pdc_hub.proofs.Replays.{here}

-- steps that were read from bytes that say them make a life
pub makes_life : {S : Type 0} (Says : S → Sayings) (fits : S → ℕ → Arrival → Bool) (named : Option S) (s : S) → named ≡ Some s → (rules : Rules) (g : Given) (E : List Entry) (log : List ReadStep)
    → IsLife rules (Says s) g E → AreSaid (WasRead Says fits named) log → IsLife rules (Says s) g (life_from rules g E log)
makes_life Says fits named s is rules g E [] l h = l
makes_life Says fits named s is rules g E (ToArrive t bytes arrival ∷ log) l h =
    makes_life Says fits named s is rules g (answered rules g E (ToArrive t bytes arrival) ∷ E) log (subst (λ k. Says k t bytes arrival) (here named h.0.settings s h.0.are_named is) h.0.says, refl, l) h.1
makes_life Says fits named s is rules g E (ToTick now counts ∷ log) l h = makes_life Says fits named s is rules g (answered rules g E (ToTick now counts) ∷ E) log (refl, l) h.1
makes_life Says fits named s is rules g E (ToPop ∷ log) l h = makes_life Says fits named s is rules g (answered rules g E ToPop ∷ E) log (refl, l) h.1

-- how much came
arrivals : List Entry → ℕ
arrivals [] = 0
arrivals (Arrive t bytes arrival answer ∷ E) = arrivals E + 1
arrivals (Tick now counts answer ∷ E) = arrivals E
arrivals (Pop row ∷ E) = arrivals E

arrivals_from : (rules : Rules) (g : Given) (E : List Entry) (log : List ReadStep) → arrivals (life_from rules g E log) ≡ arrivals E + came_in log
unfolding arrivals
arrivals_from rules g E [] = omega arith
arrivals_from rules g E (ToArrive t bytes arrival ∷ log) = omega (arith, arrivals_from rules g (answered rules g E (ToArrive t bytes arrival) ∷ E) log)
arrivals_from rules g E (ToTick now counts ∷ log) = arrivals_from rules g (answered rules g E (ToTick now counts) ∷ E) log
arrivals_from rules g E (ToPop ∷ log) = arrivals_from rules g (answered rules g E ToPop ∷ E) log

-- sums below a number
abbrev pub sum_to : ℕ → (ℕ → ℕ) → ℕ
sum_to zero f = 0
sum_to (suc n) f = sum_to n f + f n

sums_at_most : (n : ℕ) (f h : ℕ → ℕ) → ((s : ℕ) → s < n → f s ≤ h s) → sum_to n f ≤ sum_to n h
sums_at_most zero f h le = omega arith
sums_at_most (suc n) f h le = omega (arith, sums_at_most n f h (λ s l. le s (omega (arith, l))), le n (omega arith))

below_or_there : (s n : ℕ) (b : Bool) → (s == n) ≡ b → s < suc n → (s < n) ⊎ (s ≡ n)
below_or_there s n true is l = inr (grind (arith, nat_tests, is))
below_or_there s n false is l = inl (grind (arith, nat_tests, is, l))

-- each is at most the other, and so are their sums the other way: each is as great
each_as_great : (n : ℕ) (f h : ℕ → ℕ) → ((s : ℕ) → s < n → f s ≤ h s) → sum_to n h ≤ sum_to n f → (s : ℕ) → s < n → h s ≤ f s
each_as_great zero f h le sums s l = absurd (omega (arith, l))
each_as_great (suc n) f h le sums s l =
    let below = sums_at_most n f h (λ t m. le t (omega (arith, m))) in
    let there = le n (omega arith) in
    ⊎_elim (λ (x : s < n). each_as_great n f h (λ t m. le t (omega (arith, m))) (omega (arith, sums, there)) s x)
    (λ (e : s ≡ n). subst (λ (k : ℕ). h k ≤ f k) (sym e) (omega (arith, sums, below)))
    (below_or_there s n (s == n) refl l)

abbrev number : List Entry → ℕ → ℕ
number E s = length (brought s E)

one_more : (b : Bool) (xs : List (List ℕ × Outcome)) (x : List ℕ × Outcome) → b ≡ true → length (if b then xs ++ x ∷ [] else xs) ≡ length xs + 1
one_more b xs x is = rw is (omega (arith, length-append xs (x ∷ [])))

no_more : (b : Bool) (xs : List (List ℕ × Outcome)) (x : List ℕ × Outcome) → b ≡ false → length (if b then xs ++ x ∷ [] else xs) ≡ length xs
no_more b xs x is = rw is refl

number_here : (E : List Entry) (t s : ℕ) (bytes : List ℕ) (arrival : Arrival) (answer : Answer) → (t == s) ≡ true → number (Arrive t bytes arrival answer ∷ E) s ≡ number E s + 1
number_here E t s bytes arrival answer is = one_more (t == s) (brought s E) (bytes, answer.outcome) is

number_there : (E : List Entry) (t s : ℕ) (bytes : List ℕ) (arrival : Arrival) (answer : Answer) → (t == s) ≡ false → number (Arrive t bytes arrival answer ∷ E) s ≡ number E s
number_there E t s bytes arrival answer is = no_more (t == s) (brought s E) (bytes, answer.outcome) is

-- an arrival counts for no stream below its own,
below_it : (n : ℕ) (E : List Entry) (t : ℕ) (bytes : List ℕ) (arrival : Arrival) (answer : Answer) → n ≤ t → sum_to n (number (Arrive t bytes arrival answer ∷ E)) ≡ sum_to n (number E)
below_it zero E t bytes arrival answer l = refl
below_it (suc n) E t bytes arrival answer l =
    let other : (t == n) ≡ false = grind (arith, nat_tests, l) in
    omega (arith, below_it n E t bytes arrival answer (omega (arith, l)), number_there E t n bytes arrival answer other)

-- and once in all
once_by : (n : ℕ) (E : List Entry) (t : ℕ) (bytes : List ℕ) (arrival : Arrival) (answer : Answer) (b : Bool) → (t == n) ≡ b → sum_to n (number (Arrive t bytes arrival answer ∷ E)) ≤ sum_to n (number E) + 1
    → sum_to n (number (Arrive t bytes arrival answer ∷ E)) + number (Arrive t bytes arrival answer ∷ E) n ≤ sum_to n (number E) + number E n + 1
once_by n E t bytes arrival answer true is l =
    let at : t ≡ n = grind (arith, nat_tests, is) in
    omega (arith, below_it n E t bytes arrival answer (omega (arith, at)), number_here E t n bytes arrival answer is)
once_by n E t bytes arrival answer false is l = omega (arith, l, number_there E t n bytes arrival answer is)

once : (n : ℕ) (E : List Entry) (t : ℕ) (bytes : List ℕ) (arrival : Arrival) (answer : Answer) → sum_to n (number (Arrive t bytes arrival answer ∷ E)) ≤ sum_to n (number E) + 1
once zero E t bytes arrival answer = omega arith
once (suc n) E t bytes arrival answer = once_by n E t bytes arrival answer (t == n) refl (once n E t bytes arrival answer)

nothing : (n : ℕ) → sum_to n (number []) ≡ 0
nothing zero = refl
nothing (suc n) = omega (arith, nothing n)

-- no more is brought by all streams than came
at_most : (n : ℕ) (E : List Entry) → sum_to n (number E) ≤ arrivals E
unfolding arrivals
at_most n [] = omega (arith, nothing n)
at_most n (Arrive t bytes arrival answer ∷ E) = omega (arith, once n E t bytes arrival answer, at_most n E)
at_most n (Tick now counts answer ∷ E) = at_most n E
at_most n (Pop row ∷ E) = at_most n E

among_length : {A : Type 0} (xs ys : List A) → IsAmong xs ys → length xs ≤ length ys
among_length [] ys h = omega arith
among_length (x ∷ xs) [] h = absurd h
among_length (x ∷ xs) (y ∷ ys) h = ⊎_elim (λ (a : (x ≡ y) × IsAmong xs ys). omega (arith, among_length xs ys a.1)) (λ (b : IsAmong (x ∷ xs) ys). omega (arith, among_length (x ∷ xs) ys b)) h

among_whole : {A : Type 0} (xs ys : List A) → IsAmong xs ys → length ys ≤ length xs → ys ≡ xs
among_whole [] [] h n = refl
among_whole [] (y ∷ ys) h n = absurd (omega (arith, n))
among_whole (x ∷ xs) [] h n = absurd h
among_whole (x ∷ xs) (y ∷ ys) h n = ⊎_elim (λ (a : (x ≡ y) × IsAmong xs ys). cc (a.0, among_whole xs ys a.1 (omega (arith, n)))) (λ (b : IsAmong (x ∷ xs) ys). absurd (omega (arith, n, among_length (x ∷ xs) ys b))) h

-- There is one life of these steps, in which each stream below a number brought what its receiver has.
pub record IsOneLife (rules : Rules) (Says : Sayings) (g : Given) (log : List ReadStep) (streams : ℕ) (own : ℕ → List (List ℕ × Outcome)) : Type 0 where
  pub is_life : IsLife rules Says g (life_of rules g log)
  pub all_brought : (s : ℕ) → s < streams → brought s (life_of rules g log) ≡ own s

pub met : {S : Type 0} (Says : S → Sayings) (fits : S → ℕ → Arrival → Bool) (named : Option S) (settings : S) → named ≡ Some settings → (rules : Rules) (g : Given) (log : List ReadStep) (streams : ℕ)
    (own : ℕ → List (List ℕ × Outcome)) (front : ℕ → List ReadStep) → AreSaid (WasRead Says fits named) log → ((s : ℕ) → s < streams → IsPrefix (front s) log)
    → ((s : ℕ) → s < streams → IsAmong (own s) (brought s (life_of rules g (front s)))) → sum_to streams (λ s. length (own s)) ≡ came_in log → IsOneLife rules (Says settings) g log streams own
unfolding arrivals
met Says fits named settings is rules g log streams own front said begins among all =
    let E = life_of rules g log in
    let at : (s : ℕ) → s < streams → IsAmong (own s) (brought s E) = λ s l. among_prefix (own s) (brought s (life_of rules g (front s))) (brought s E) (among s l) (brought_grows s rules g (front s) log (begins s l)) in record {
      is_life = makes_life Says fits named settings is rules g [] log tt said;
      all_brought = λ s l. among_whole (own s) (brought s E) (at s l)
          (each_as_great streams (λ t. length (own t)) (number E) (λ t m. among_length (own t) (brought t E) (at t m)) (omega (arith, at_most streams E, all, arrivals_from rules g [] log)) s l);
    }
