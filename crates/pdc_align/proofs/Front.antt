-- What closes is the front of the open instants: what stays is what is above the greatest that closes.
use Rattle.std.proofs.Common.{◌≡◌, ℕ, ◌<◌, ◌≤◌, Bool, true, false, not, ◌||◌, ◌&&◌, cond, max, List, [], ◌∷◌, filter, refl, sym, ap, ◌∙◌, arith, inl, inr, eqb}
use Rattle.std.specs.Prelude.{nat_le, nat_lt}
use Rattle.std.specs.List.{AllByRecursion, list_all}
use Rattle.std.proofs.lemmas.Bool.{le-leb, lt-leb, le-ltb, lt-ltb, cases_Bool, cases_lt}
use Rattle.pdc_arrival.specs.pdc_row.Quality.{greatest}
use Rattle.pdc_arrival.specs.pdc_row.Rising.{Rises, place, rising}
use Rattle.pdc_arrival.specs.pdc_row.RisingLaws.{Below, At, Above, RisingLaws}

-- an instant closes where each open one up to it is due
abbrev pub closes : (due : ℕ → Bool) → List ℕ → ℕ → Bool
closes due is i = list_all (λ j. not (nat_le j i) || due j) is

-- those above it do not hold it back
held_by_none : (due : ℕ → Bool) (low i : ℕ) (is : List ℕ) → i ≤ low → Rises low is → closes due is i ≡ true
held_by_none due low i [] h r = refl
held_by_none due low i (j ∷ js) h r =
    ap (λ b. (not b || due j) && closes due js i) (lt-leb j i (omega (arith, h, r.0)))
    ∙ held_by_none due j i js (omega (arith, h, r.0)) r.1

and_true : (b : Bool) → (b && true) ≡ b
and_true true = refl
and_true false = refl

first_closes : (due : ℕ → Bool) (i : ℕ) (is : List ℕ) → Rises i is → closes due (i ∷ is) i ≡ due i
first_closes due i is r =
    ap (λ b. (not b || due i) && closes due is i) (le-leb i i (omega arith))
    ∙ ap (λ b. due i && b) (held_by_none due i i is (omega arith) r)
    ∙ and_true (due i)

later_closes : (due : ℕ → Bool) (i j : ℕ) (is : List ℕ) → i < j → closes due (i ∷ is) j ≡ (due i && closes due is j)
later_closes due i j is h = ap (λ b. (not b || due i) && closes due is j) (le-leb i j (omega (arith, h)))

filter_alike : (p q : ℕ → Bool) (low : ℕ) (ns : List ℕ) → Rises low ns → ((n : ℕ) → low < n → p n ≡ q n) → filter p ns ≡ filter q ns
filter_alike p q low [] r h = refl
filter_alike p q low (n ∷ ns) r h =
    ap (λ b. cond b (n ∷ filter p ns) (filter p ns)) (h n r.0)
    ∙ ap (λ xs. cond (q n) (n ∷ xs) xs) (filter_alike p q n ns r.1 (λ m l. h m (omega (arith, l, r.0))))

all_pass : (ns : List ℕ) → filter (λ n. true) ns ≡ ns
all_pass [] = refl
all_pass (n ∷ ns) = ap (λ xs. n ∷ xs) (all_pass ns)

none_passes : (ns : List ℕ) → filter (λ n. false) ns ≡ []
none_passes [] = refl
none_passes (n ∷ ns) = none_passes ns

-- where the first is due, it closes, and the others as without it
rest_closes : (due : ℕ → Bool) (i : ℕ) (is : List ℕ) → due i ≡ true → (j : ℕ) → i < j → closes due (i ∷ is) j ≡ closes due is j
rest_closes due i is d j h = later_closes due i j is h ∙ ap (λ b. b && closes due is j) d

front_due : (due : ℕ → Bool) (i : ℕ) (is : List ℕ) → due i ≡ true → Rises i is → filter (closes due (i ∷ is)) (i ∷ is) ≡ i ∷ filter (closes due is) is
front_due due i is d r =
    ap (λ b. cond b (i ∷ filter (closes due (i ∷ is)) is) (filter (closes due (i ∷ is)) is)) (first_closes due i is r ∙ d)
    ∙ ap (λ xs. i ∷ xs) (filter_alike (closes due (i ∷ is)) (closes due is) i is r (rest_closes due i is d))

back_due : (due : ℕ → Bool) (i : ℕ) (is : List ℕ) → due i ≡ true → Rises i is → filter (λ j. not (closes due (i ∷ is) j)) (i ∷ is) ≡ filter (λ j. not (closes due is j)) is
back_due due i is d r =
    ap (λ b. cond (not b) (i ∷ filter (λ j. not (closes due (i ∷ is) j)) is) (filter (λ j. not (closes due (i ∷ is) j)) is)) (first_closes due i is r ∙ d)
    ∙ filter_alike (λ j. not (closes due (i ∷ is) j)) (λ j. not (closes due is j)) i is r (λ j h. ap not (rest_closes due i is d j h))

-- where it is not, none closes
rest_stays : (due : ℕ → Bool) (i : ℕ) (is : List ℕ) → due i ≡ false → (j : ℕ) → i < j → closes due (i ∷ is) j ≡ false
rest_stays due i is d j h = later_closes due i j is h ∙ ap (λ b. b && closes due is j) d

front_early : (due : ℕ → Bool) (i : ℕ) (is : List ℕ) → due i ≡ false → Rises i is → filter (closes due (i ∷ is)) (i ∷ is) ≡ []
front_early due i is d r =
    ap (λ b. cond b (i ∷ filter (closes due (i ∷ is)) is) (filter (closes due (i ∷ is)) is)) (first_closes due i is r ∙ d)
    ∙ filter_alike (closes due (i ∷ is)) (λ j. false) i is r (rest_stays due i is d)
    ∙ none_passes is

back_early : (due : ℕ → Bool) (i : ℕ) (is : List ℕ) → due i ≡ false → Rises i is → filter (λ j. not (closes due (i ∷ is) j)) (i ∷ is) ≡ i ∷ is
back_early due i is d r =
    ap (λ b. cond (not b) (i ∷ filter (λ j. not (closes due (i ∷ is) j)) is) (filter (λ j. not (closes due (i ∷ is) j)) is)) (first_closes due i is r ∙ d)
    ∙ ap (λ xs. i ∷ xs) (filter_alike (λ j. not (closes due (i ∷ is) j)) (λ j. true) i is r (λ j h. ap not (rest_stays due i is d j h)) ∙ all_pass is)

above_all : (low : ℕ) (is : List ℕ) → Rises low is → filter (λ i. nat_lt low i) is ≡ is
above_all low is r = filter_alike (λ i. nat_lt low i) (λ i. true) low is r (λ i h. lt-ltb low i h) ∙ all_pass is

module _ (R : RisingLaws) where
  stay_early : (due : ℕ → Bool) (low i : ℕ) (is : List ℕ) → due i ≡ false → Rises low (i ∷ is) → filter (λ j. not (closes due (i ∷ is) j)) (i ∷ is) ≡ filter (λ j. nat_lt (greatest low (filter (closes due (i ∷ is)) (i ∷ is))) j) (i ∷ is)
  stay_early due low i is d r =
      back_early due i is d r.1
      ∙ sym (ap (λ fs. filter (λ j. nat_lt (greatest low fs) j) (i ∷ is)) (front_early due i is d r.1) ∙ above_all low (i ∷ is) r)

  -- the first is not above the greatest of those that close with it
  first_is_not : (low i : ℕ) (fs is : List ℕ) → low < i → filter (λ j. nat_lt (greatest low (i ∷ fs)) j) (i ∷ is) ≡ filter (λ j. nat_lt (greatest i fs) j) is
  first_is_not low i fs is h =
      let m : max low i ≡ i = omega (arith, h) in
      let g : i ≤ greatest i fs = R.greatest_ge i fs in
      ap (λ n. filter (λ j. nat_lt (greatest n fs) j) (i ∷ is)) m
      ∙ ap (λ b. cond b (i ∷ filter (λ j. nat_lt (greatest i fs) j) is) (filter (λ j. nat_lt (greatest i fs) j) is)) (le-ltb (greatest i fs) i g)

  stay_due : (due : ℕ → Bool) (low i : ℕ) (is : List ℕ) → due i ≡ true → Rises low (i ∷ is) → filter (λ j. not (closes due is j)) is ≡ filter (λ j. nat_lt (greatest i (filter (closes due is) is)) j) is → filter (λ j. not (closes due (i ∷ is) j)) (i ∷ is) ≡ filter (λ j. nat_lt (greatest low (filter (closes due (i ∷ is)) (i ∷ is))) j) (i ∷ is)
  stay_due due low i is d r h =
      back_due due i is d r.1 ∙ h
      ∙ sym (ap (λ fs. filter (λ j. nat_lt (greatest low fs) j) (i ∷ is)) (front_due due i is d r.1) ∙ first_is_not low i (filter (closes due is) is) is r.0)

  -- what does not close is above the greatest that does
  pub what_stays : (due : ℕ → Bool) (low : ℕ) (is : List ℕ) → Rises low is → filter (λ i. not (closes due is i)) is ≡ filter (λ i. nat_lt (greatest low (filter (closes due is) is)) i) is
  what_stays due low [] r = refl
  what_stays due low (i ∷ is) r = elim (cases_Bool (due i)) [
    | inl d ↦ stay_due due low i is d r (what_stays due i is r.1)
    | inr d ↦ stay_early due low i is d r
  ]

  -- ---- a number in its place, and those above a bound

  place_below : (top x y : ℕ) (ys : List ℕ) → x < y → filter (λ i. nat_lt top i) (place x (y ∷ ys)) ≡ cond (nat_lt top x) (place x (filter (λ i. nat_lt top i) (y ∷ ys))) (filter (λ i. nat_lt top i) (y ∷ ys))
  place_below top x y ys l = elim (cases_lt top x) [
    | inl h ↦ (let a : nat_lt top x ≡ true = lt-ltb top x h in
        let b : nat_lt top y ≡ true = lt-ltb top y (omega (arith, h, l)) in
        ap (λ zs. filter (λ i. nat_lt top i) zs) (R.place_lower x y ys l)
        ∙ ap (λ c. cond c (x ∷ filter (λ i. nat_lt top i) (y ∷ ys)) (filter (λ i. nat_lt top i) (y ∷ ys))) a
        ∙ ap (λ c. x ∷ cond c (y ∷ filter (λ i. nat_lt top i) ys) (filter (λ i. nat_lt top i) ys)) b
        ∙ sym (ap (λ c. cond c (place x (filter (λ i. nat_lt top i) (y ∷ ys))) (filter (λ i. nat_lt top i) (y ∷ ys))) a
        ∙ ap (λ c. place x (cond c (y ∷ filter (λ i. nat_lt top i) ys) (filter (λ i. nat_lt top i) ys))) b
        ∙ R.place_lower x y (filter (λ i. nat_lt top i) ys) l))
    | inr h ↦ (let a : nat_lt top x ≡ false = le-ltb top x h in
        ap (λ zs. filter (λ i. nat_lt top i) zs) (R.place_lower x y ys l)
        ∙ ap (λ c. cond c (x ∷ filter (λ i. nat_lt top i) (y ∷ ys)) (filter (λ i. nat_lt top i) (y ∷ ys))) a
        ∙ sym (ap (λ c. cond c (place x (filter (λ i. nat_lt top i) (y ∷ ys))) (filter (λ i. nat_lt top i) (y ∷ ys))) a))
  ]

  place_at : (top x y : ℕ) (ys : List ℕ) → y ≡ x → filter (λ i. nat_lt top i) (place x (y ∷ ys)) ≡ cond (nat_lt top x) (place x (filter (λ i. nat_lt top i) (y ∷ ys))) (filter (λ i. nat_lt top i) (y ∷ ys))
  place_at top x y ys e = elim (cases_Bool (nat_lt top y)) [
    | inl b ↦ (let a : nat_lt top x ≡ true = ap (λ n. nat_lt top n) (sym e) ∙ b in
        ap (λ zs. filter (λ i. nat_lt top i) zs) (R.place_same x y ys e)
        ∙ ap (λ c. cond c (y ∷ filter (λ i. nat_lt top i) ys) (filter (λ i. nat_lt top i) ys)) b
        ∙ sym (ap (λ c. cond c (place x (filter (λ i. nat_lt top i) (y ∷ ys))) (filter (λ i. nat_lt top i) (y ∷ ys))) a
        ∙ ap (λ c. place x (cond c (y ∷ filter (λ i. nat_lt top i) ys) (filter (λ i. nat_lt top i) ys))) b
        ∙ R.place_same x y (filter (λ i. nat_lt top i) ys) e))
    | inr b ↦ (let a : nat_lt top x ≡ false = ap (λ n. nat_lt top n) (sym e) ∙ b in
        ap (λ zs. filter (λ i. nat_lt top i) zs) (R.place_same x y ys e)
        ∙ sym (ap (λ c. cond c (place x (filter (λ i. nat_lt top i) (y ∷ ys))) (filter (λ i. nat_lt top i) (y ∷ ys))) a))
  ]

  -- with the first kept or not, where the rest is known
  beyond : (x y : ℕ) (fs : List ℕ) → y < x → (a b : Bool) → cond b (y ∷ cond a (place x fs) fs) (cond a (place x fs) fs) ≡ cond a (place x (cond b (y ∷ fs) fs)) (cond b (y ∷ fs) fs)
  beyond x y fs l true true = sym (R.place_higher x y fs l)
  beyond x y fs l true false = refl
  beyond x y fs l false b = refl

  pub place_filter : (top x : ℕ) (ys : List ℕ) → filter (λ i. nat_lt top i) (place x ys) ≡ cond (nat_lt top x) (place x (filter (λ i. nat_lt top i) ys)) (filter (λ i. nat_lt top i) ys)
  place_filter top x [] = refl
  place_filter top x (y ∷ ys) = elim (R.compared x y) [
    | Below l ↦ place_below top x y ys l
    | At e ↦ place_at top x y ys e
    | Above l ↦ ap (λ zs. filter (λ i. nat_lt top i) zs) (R.place_higher x y ys l)
        ∙ ap (λ zs. cond (nat_lt top y) (y ∷ zs) zs) (place_filter top x ys)
        ∙ beyond x y (filter (λ i. nat_lt top i) ys) l (nat_lt top x) (nat_lt top y)
  ]

  rising_step : (b : Bool) (x : ℕ) (xs : List ℕ) → rising (cond b (x ∷ xs) xs) ≡ cond b (place x (rising xs)) (rising xs)
  rising_step true x xs = refl
  rising_step false x xs = refl

  pub rising_filter : (top : ℕ) (xs : List ℕ) → rising (filter (λ i. nat_lt top i) xs) ≡ filter (λ i. nat_lt top i) (rising xs)
  rising_filter top [] = refl
  rising_filter top (x ∷ xs) =
      rising_step (nat_lt top x) x (filter (λ i. nat_lt top i) xs)
      ∙ ap (λ zs. cond (nat_lt top x) (place x zs) zs) (rising_filter top xs)
      ∙ sym (place_filter top x (rising xs))

  filters : (low top : ℕ) → low ≤ top → (xs : List ℕ) → filter (λ i. nat_lt top i) (filter (λ i. nat_lt low i) xs) ≡ filter (λ i. nat_lt top i) xs
  filters low top h [] = refl
  filters low top h (x ∷ xs) = elim (cases_lt low x) [
    | inl l ↦ ap (λ b. filter (λ i. nat_lt top i) (cond b (x ∷ filter (λ i. nat_lt low i) xs) (filter (λ i. nat_lt low i) xs))) (lt-ltb low x l)
        ∙ ap (λ zs. cond (nat_lt top x) (x ∷ zs) zs) (filters low top h xs)
    | inr l ↦ ap (λ b. filter (λ i. nat_lt top i) (cond b (x ∷ filter (λ i. nat_lt low i) xs) (filter (λ i. nat_lt low i) xs))) (le-ltb low x l)
        ∙ filters low top h xs
        ∙ sym (ap (λ b. cond b (x ∷ filter (λ i. nat_lt top i) xs) (filter (λ i. nat_lt top i) xs)) (le-ltb top x (omega (arith, h, l))))
  ]

  -- of numbers above a bound, those above a higher one
  pub above_higher : (low top : ℕ) (xs : List ℕ) → low ≤ top → rising (filter (λ i. nat_lt top i) xs) ≡ filter (λ i. nat_lt top i) (rising (filter (λ i. nat_lt low i) xs))
  above_higher low top xs h = sym (ap rising (filters low top h xs)) ∙ rising_filter top (filter (λ i. nat_lt low i) xs)

  -- the open ones after a tick that closes these
  pub stay_open : (due : ℕ → Bool) (low : ℕ) (xs : List ℕ) → Rises low (rising (filter (λ i. nat_lt low i) xs)) → rising (filter (λ i. nat_lt (greatest low (filter (closes due (rising (filter (λ i. nat_lt low i) xs))) (rising (filter (λ i. nat_lt low i) xs)))) i) xs) ≡ filter (λ i. not (closes due (rising (filter (λ i. nat_lt low i) xs)) i)) (rising (filter (λ i. nat_lt low i) xs))
  stay_open due low xs r =
      above_higher low (greatest low (filter (closes due (rising (filter (λ i. nat_lt low i) xs))) (rising (filter (λ i. nat_lt low i) xs)))) xs (R.greatest_ge low (filter (closes due (rising (filter (λ i. nat_lt low i) xs))) (rising (filter (λ i. nat_lt low i) xs))))
      ∙ sym (what_stays due low (rising (filter (λ i. nat_lt low i) xs)) r)

-- what holds of the numbers holds of them in rising order
all_placed : (P : ℕ → Type 0) (b c : Bool) (x y : ℕ) (ys zs : List ℕ) → P x → P y → AllByRecursion P ys → AllByRecursion P zs → AllByRecursion P (cond b (x ∷ y ∷ ys) (cond c (y ∷ ys) (y ∷ zs)))
all_placed P true c x y ys zs p q a h = (p, (q, a))
all_placed P false true x y ys zs p q a h = (q, a)
all_placed P false false x y ys zs p q a h = (q, h)

all_place : (P : ℕ → Type 0) (x : ℕ) (ys : List ℕ) → P x → AllByRecursion P ys → AllByRecursion P (place x ys)
all_place P x [] p a = (p, tt)
all_place P x (y ∷ ys) p a = all_placed P (nat_lt x y) (eqb y x) x y ys (place x ys) p a.0 a.1 (all_place P x ys p a.1)

pub all_rising : (P : ℕ → Type 0) (xs : List ℕ) → AllByRecursion P xs → AllByRecursion P (rising xs)
all_rising P [] a = tt
all_rising P (x ∷ xs) a = all_place P x (rising xs) a.0 (all_rising P xs a.1)

all_kept : (P : ℕ → Type 0) (b : Bool) (x : ℕ) (xs : List ℕ) → P x → AllByRecursion P xs → AllByRecursion P (cond b (x ∷ xs) xs)
all_kept P true x xs p a = (p, a)
all_kept P false x xs p a = a

pub all_filter : (P : ℕ → Type 0) (f : ℕ → Bool) (xs : List ℕ) → AllByRecursion P xs → AllByRecursion P (filter f xs)
all_filter P f [] a = tt
all_filter P f (x ∷ xs) a = all_kept P (f x) x (filter f xs) a.0 (all_filter P f xs a.1)
