-- Rising numbers.
use Rattle.std.proofs.Common.{◌≡◌, ℕ, ◌+◌, ◌-◌, ◌<◌, ◌≤◌, List, [], ◌∷◌, ◌++◌, length, get_or, filter, refl, sym, ◌∙◌, ap, arith, rules, zero, suc, max, Bool, true, false, cond, ltb, eqb, inl, inr, ◌&&◌, nat_lt}
use Rattle.std.specs.Int.{abs_diff}
use Rattle.std.specs.List.{list_all, slice_get}
use Rattle.std.proofs.lemmas.Bool.{cases_lt, false≢true}
use borrow.Author.Tests.{ltb-true}
use Rattle.pdc_row.specs.Quality.{greatest}
use Rattle.pdc_row.specs.Rising.{Rises, AreAbove, AreBelow, AreNear, is_near, is_near_any, highest_of, place, rising}
use Rattle.pdc_row.specs.RisingLaws.{AreAllNear, Compared, Below, At, Above, RisingLaws}

-- a lower bound in place of this one
pub rises_above : (low high : ℕ) (ns : List ℕ) → low ≤ high → Rises high ns → Rises low ns
rises_above low high [] h r = tt
rises_above low high (n ∷ ns) h r = (omega (arith, r.0), r.1)

pub below_higher : (top high : ℕ) (ns : List ℕ) → top ≤ high → AreBelow top ns → AreBelow high ns
below_higher top high [] h r = tt
below_higher top high (n ∷ ns) h r = (omega (arith, r.0), below_higher top high ns h r.1)

-- rising numbers in a range are no more than the range has
pub rises-length : (low top : ℕ) (ns : List ℕ) → Rises low ns → AreBelow top ns → length ns ≤ top - (low + 1)
rises-length low top [] r b = omega arith
rises-length low top (n ∷ ns) r b = let h : length ns ≤ top - (n + 1) = rises-length n top ns r.1 b.1 in omega (arith, r.0, b.0)

-- near each other, they are no more than the window
pub near_length : (low window : ℕ) (ns : List ℕ) → 0 < window → Rises low ns → AreNear window ns → length ns ≤ window
near_length low window [] w r b = omega arith
near_length low window (n ∷ ns) w r b = let h : length ns ≤ (n + window) - (n + 1) = rises-length n (n + window) ns r.1 b in omega arith

-- by place
pub rises_get : (low : ℕ) (ns : List ℕ) (k : ℕ) → Rises low ns → k < length ns → low < get_or ns k 0
rises_get low [] k r h = omega arith
rises_get low (n ∷ ns) zero r h = r.0
rises_get low (n ∷ ns) (suc k) r h = let s : n < get_or ns k 0 = rises_get n ns k r.1 (omega arith) in omega (arith, r.0)

pub rises_order : (low : ℕ) (ns : List ℕ) (i j : ℕ) → Rises low ns → i < j → j < length ns → get_or ns i 0 < get_or ns j 0
rises_order low [] i j r h k = omega arith
rises_order low (n ∷ ns) i zero r h k = omega arith
rises_order low (n ∷ ns) zero (suc j) r h k = rises_get n ns j r.1 (omega arith)
rises_order low (n ∷ ns) (suc i) (suc j) r h k = rises_order n ns i j r.1 (omega arith) (omega arith)

pub rises_append : (low m : ℕ) (ns ms : List ℕ) → low ≤ m → Rises low ns → AreBelow (m + 1) ns → Rises m ms → Rises low (ns ++ ms)
rises_append low m [] ms h r b s = rises_above low m ms h s
rises_append low m (n ∷ ns) ms h r b s = (r.0, rises_append n m ns ms (omega (arith, b.0)) r.1 b.1 s)

pub rises_front : (low : ℕ) (ns ms : List ℕ) → Rises low (ns ++ ms) → Rises low ns
rises_front low [] ms r = tt
rises_front low (n ∷ ns) ms r = (r.0, rises_front n ns ms r.1)

-- what is behind is above the greatest of the front
pub rises_back : (low : ℕ) (ns ms : List ℕ) → Rises low (ns ++ ms) → Rises (greatest low ns) ms
rises_back low [] ms r = r
rises_back low (n ∷ ns) ms r = let e : max low n ≡ n = omega (arith, r.0) in rw e (rises_back n ns ms r.1)

pub below_append : (top : ℕ) (ns ms : List ℕ) → AreBelow top ns → AreBelow top ms → AreBelow top (ns ++ ms)
below_append top [] ms b d = d
below_append top (n ∷ ns) ms b d = (b.0, below_append top ns ms b.1 d)

pub below_front : (top : ℕ) (ns ms : List ℕ) → AreBelow top (ns ++ ms) → AreBelow top ns
below_front top [] ms b = tt
below_front top (n ∷ ns) ms b = (b.0, below_front top ns ms b.1)

pub below_back : (top : ℕ) (ns ms : List ℕ) → AreBelow top (ns ++ ms) → AreBelow top ms
below_back top [] ms b = b
below_back top (n ∷ ns) ms b = below_back top ns ms b.1

pub greatest_ge : (low : ℕ) (ns : List ℕ) → low ≤ greatest low ns
greatest_ge low [] = omega arith
greatest_ge low (n ∷ ns) = let h : max low n ≤ greatest (max low n) ns = greatest_ge (max low n) ns in omega arith

pub below_greatest : (low : ℕ) (ns : List ℕ) → AreBelow (greatest low ns + 1) ns
below_greatest low [] = tt
below_greatest low (n ∷ ns) = let h : max low n ≤ greatest (max low n) ns = greatest_ge (max low n) ns in (omega arith, below_greatest (max low n) ns)

pub near_tail : (low window n : ℕ) (ns : List ℕ) → Rises low (n ∷ ns) → AreNear window (n ∷ ns) → AreNear window ns
near_tail low window n [] r b = tt
near_tail low window n (m ∷ ns) r b = below_higher (n + window) (m + window) ns (omega (arith, r.1.0)) b.1

pub place_lower : (i n : ℕ) (ns : List ℕ) → i < n → place i (n ∷ ns) ≡ i ∷ n ∷ ns
place_lower i n ns h = let e : ltb i n ≡ true = search rules in rw e refl

pub place_same : (i n : ℕ) (ns : List ℕ) → n ≡ i → place i (n ∷ ns) ≡ n ∷ ns
place_same i n ns h = let e : ltb i n ≡ false = search rules in let f : eqb n i ≡ true = search rules in rw (e, f) refl

pub place_higher : (i n : ℕ) (ns : List ℕ) → n < i → place i (n ∷ ns) ≡ n ∷ place i ns
place_higher i n ns h = let e : ltb i n ≡ false = search rules in let f : eqb n i ≡ false = search rules in rw (e, f) refl

pub compared : (i n : ℕ) → Compared i n
compared i n = elim (cases_lt i n) [ inl h ↦ Below h | inr h ↦ elim (cases_lt n i) [ inl k ↦ Above k | inr k ↦ At (omega arith) ] ]

pub rises_place : (low i : ℕ) (ns : List ℕ) → Rises low ns → low < i → Rises low (place i ns)
rises_place low i [] r h = (h, tt)
rises_place low i (n ∷ ns) r h = elim (compared i n) [
  | Below l ↦ rw (place_lower i n ns l) (h, (l, r.1))
  | At e ↦ rw (place_same i n ns e) r
  | Above g ↦ rw (place_higher i n ns g) (r.0, rises_place n i ns r.1 g)
]

pub below-place : (top i : ℕ) (ns : List ℕ) → AreBelow top ns → i < top → AreBelow top (place i ns)
below-place top i [] b h = (h, tt)
below-place top i (n ∷ ns) b h = elim (compared i n) [
  | Below l ↦ rw (place_lower i n ns l) (h, (b.0, b.1))
  | At e ↦ rw (place_same i n ns e) b
  | Above g ↦ rw (place_higher i n ns g) (b.0, below-place top i ns b.1 h)
]

both : (a b : Bool) → (a && b) ≡ true → (a ≡ true) × (b ≡ true)
both true b h = (refl, h)
both false b h = absurd (false≢true h)

near_from_true : (window i n : ℕ) → is_near window i n ≡ true → (i < n + window) × (n < i + window)
near_from_true window i n h = let b : (ltb i (n + window) ≡ true) × (ltb n (i + window) ≡ true) = both (ltb i (n + window)) (ltb n (i + window)) h in (ltb-true i (n + window) b.0, ltb-true n (i + window) b.1)

pub all_near : (window i : ℕ) (ns : List ℕ) → list_all (is_near window i) ns ≡ true → AreAllNear window i ns
all_near window i [] h = tt
all_near window i (n ∷ ns) h =
    let b : (is_near window i n ≡ true) × (list_all (is_near window i) ns ≡ true) = both (is_near window i n) (list_all (is_near window i) ns) h in
    (near_from_true window i n b.0, all_near window i ns b.1)

below_from_near : (window i : ℕ) (ns : List ℕ) → AreAllNear window i ns → AreBelow (i + window) ns
below_from_near window i [] h = tt
below_from_near window i (n ∷ ns) h = (h.0.1, below_from_near window i ns h.1)

-- numbers near each other, and one more that is near each
pub near_place : (window i : ℕ) (cs os : List ℕ) → 0 < window → AreNear window (cs ++ os) → AreAllNear window i (cs ++ os) → AreNear window (cs ++ place i os)
near_place window i [] [] w b h = tt
near_place window i [] (o ∷ os) w b h = elim (compared i o) [
  | Below l ↦ rw (place_lower i o os l) (h.0.1, below_from_near window i os h.1)
  | At e ↦ rw (place_same i o os e) b
  | Above g ↦ rw (place_higher i o os g) (below-place (o + window) i os b h.0.0)
]
near_place window i (c ∷ cs) os w b h = below_append (c + window) cs (place i os) (below_front (c + window) cs os b) (below-place (c + window) i os (below_back (c + window) cs os b) h.0.0)

and_both : (a b : Bool) → a ≡ true → b ≡ true → (a && b) ≡ true
and_both a b h k = rw (h, k) refl

and_first : (a b : Bool) → a ≡ false → (a && b) ≡ false
and_first a b h = rw h refl

and_second : (a b : Bool) → b ≡ false → (a && b) ≡ false
and_second true b h = h
and_second false b h = refl

and_true : (a : Bool) → (a && true) ≡ a
and_true true = refl
and_true false = refl

pub lower : (m n : ℕ) → m < n → ltb m n ≡ true
lower m n h = search rules

not_lower : (m n : ℕ) → n ≤ m → ltb m n ≡ false
not_lower m n h = search rules

-- how far two numbers are apart
pub apart : (window i n : ℕ) → ltb (abs_diff n i) window ≡ is_near window i n
apart window i n = elim (cases_lt i (n + window)) [
  | inl a ↦ elim (cases_lt n (i + window)) [
    | inl b ↦ lower (abs_diff n i) window (omega arith) ∙ sym (and_both (ltb i (n + window)) (ltb n (i + window)) (lower i (n + window) a) (lower n (i + window) b))
    | inr b ↦ not_lower (abs_diff n i) window (omega arith) ∙ sym (and_second (ltb i (n + window)) (ltb n (i + window)) (not_lower n (i + window) b))
  ]
  | inr a ↦ not_lower (abs_diff n i) window (omega arith) ∙ sym (and_first (ltb i (n + window)) (ltb n (i + window)) (not_lower i (n + window) a))
]

far_up : (window i n : ℕ) (ns : List ℕ) → Rises n ns → i + window ≤ n → is_near_any window i (highest_of (n ∷ ns)) ≡ false
far_up window i n [] r h = and_second (ltb i (n + window)) (ltb n (i + window)) (not_lower n (i + window) h)
far_up window i n (m ∷ ns) r h = far_up window i m ns r.1 (omega (arith, r.0))

last_near : (window i n : ℕ) (ns : List ℕ) → Rises n ns → i < n + window → n < i + window → is_near_any window i (highest_of (n ∷ ns)) ≡ list_all (is_near window i) (n ∷ ns)
last_near window i n [] r h k = sym (and_true (is_near window i n))
last_near window i n (m ∷ ns) r h k =
    let near : is_near window i n ≡ true = and_both (ltb i (n + window)) (ltb n (i + window)) (lower i (n + window) h) (lower n (i + window) k) in
    elim (cases_lt m (i + window)) [
      | inl l ↦ last_near window i m ns r.1 (omega (arith, r.0)) l ∙ sym (ap (λ b. b && list_all (is_near window i) (m ∷ ns)) near)
      | inr g ↦ far_up window i m ns r.1 g
          ∙ sym (and_second (is_near window i n) (list_all (is_near window i) (m ∷ ns)) (and_first (is_near window i m) (list_all (is_near window i) ns) (and_second (ltb i (m + window)) (ltb m (i + window)) (not_lower m (i + window) g))))
    ]

ends_and : (b x y : Bool) → (b ≡ true → x ≡ (b && y)) → (b && x) ≡ (b && y)
ends_and true x y h = h refl
ends_and false x y h = refl

-- of rising numbers the first and the last tell
pub ends_near : (window i low : ℕ) (ns : List ℕ) → Rises low ns → (is_near_any window i (slice_get ns 0) && is_near_any window i (highest_of ns)) ≡ list_all (is_near window i) ns
ends_near window i low [] r = refl
ends_near window i low (n ∷ ns) r =
    ends_and (is_near window i n) (is_near_any window i (highest_of (n ∷ ns))) (list_all (is_near window i) ns)
    (λ h. let near : (i < n + window) × (n < i + window) = near_from_true window i n h in last_near window i n ns r.1 near.0 near.1)

pub greatest_append : (low : ℕ) (ns ms : List ℕ) → greatest low (ns ++ ms) ≡ greatest (greatest low ns) ms
greatest_append low [] ms = refl
greatest_append low (n ∷ ns) ms = greatest_append (max low n) ns ms

pub above_filter : (low : ℕ) (ns : List ℕ) → AreAbove low (filter (λ i. nat_lt low i) ns)
above_filter low [] = tt
above_filter low (n ∷ ns) = elim (cases_lt low n) [
  | inl h ↦ (let e : ltb low n ≡ true = search rules in rw e (h, above_filter low ns))
  | inr h ↦ (let e : ltb low n ≡ false = search rules in rw e (above_filter low ns))
]

pub rises_rising : (low : ℕ) (ns : List ℕ) → AreAbove low ns → Rises low (rising ns)
rises_rising low [] a = tt
rises_rising low (n ∷ ns) a = rises_place low n (rising ns) (rises_rising low ns a.1) a.0

either : (b : Bool) (low : ℕ) (ns ms : List ℕ) → Rises low ns → Rises low ms → Rises low (cond b ns ms)
either true low ns ms r s = r
either false low ns ms r s = s

pub rises_filter : (f : ℕ → Bool) (low : ℕ) (ns : List ℕ) → Rises low ns → Rises low (filter f ns)
rises_filter f low [] r = tt
rises_filter f low (n ∷ ns) r =
    let rest : Rises n (filter f ns) = rises_filter f n ns r.1 in
    either (f n) low (n ∷ filter f ns) (filter f ns) (r.0, rest) (rises_above low n (filter f ns) (omega (arith, r.0)) rest)

pub numbers_rise : RisingLaws
numbers_rise = record {
  rises_above = rises_above;
  below_higher = below_higher;
  rises_append = rises_append;
  rises_front = rises_front;
  rises_back = rises_back;
  below_append = below_append;
  greatest_ge = greatest_ge;
  below_greatest = below_greatest;
  greatest_append = greatest_append;
  rises_order = rises_order;
  compared = compared;
  place_lower = place_lower;
  place_same = place_same;
  place_higher = place_higher;
  rises_place = rises_place;
  above_filter = above_filter;
  rises_rising = rises_rising;
  rises_filter = rises_filter;
  near_length = near_length;
  near_tail = near_tail;
  all_near = all_near;
  near_place = near_place;
  ends_near = ends_near;
}
