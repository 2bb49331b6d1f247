-- A ring that is made a copy of another one: what is held there is copied, and what else stands at a place is of no open instant.
use Rattle.std.proofs.Common.{◌≡◌, ℕ, ◌%◌, ◌<◌, ◌≤◌, Bool, true, false, if◌then◌else◌, ◌||◌, eqb, List, [], ◌∷◌, length, get_or, set, map, refl, sym, ◌∙◌, ap, subst, arith, inl, inr, zero, suc}
use Rattle.std.proofs.Math.Nat.{mod-lt}
use Rattle.std.specs.List.{All, AllByRecursion, list_any}
use Rattle.std.proofs.lemmas.Bool.{cases_eq, cases_lt, ne_eqb, false≢true}
use Rattle.std.proofs.lemmas.Grind.{get_or-set_at}
use Rattle.std.proofs.lemmas.List.{get_or_default, get_or-set_same, get_or-set_other, length-map, length-set}
use Rattle.pdc_table.specs.Content.{HasPlaces}
use Rattle.pdc_open_row.specs.pdc_columns.Layout.{LayoutView}
use Rattle.pdc_table.specs.RingRows.{StandAbove, changed, closed_rows, copied, no_layout, row_in, rows_in, with_ages}
use Rattle.pdc_open_row.specs.Views.{OpenRowView, blank_row, without_instant}
use Rattle.pdc_table.proofs.RingAges.{aged_row}
use Rattle.pdc_table.proofs.RingKept.{IsKnown}
use Rattle.pdc_table.proofs.RingRows.{ArePlaced, changed-each, changed-length, set-each, set-stand}

-- what stands at the places after a copy

pub copied-length : {A : Type 0} → (d : A) (window : ℕ) (is : List ℕ) (others places : List A) → length (copied d window is others places) ≡ length places
copied-length d window [] others places = refl
copied-length d window (i ∷ is) others places = copied-length d window is others (set places (i % window) (get_or others (i % window) d)) ∙ length-set places (i % window) (get_or others (i % window) d)

copied-each : (Q : OpenRowView → Type 0) (d : OpenRowView) (window : ℕ) (is : List ℕ) (others places : List OpenRowView) → 0 < window → length others ≡ window → All Q others → All Q places → All Q (copied d window is others places)
copied-each Q d window [] others places h e a b = b
copied-each Q d window (i ∷ is) others places h e a b =
    copied-each Q d window is others (set places (i % window) (get_or others (i % window) d)) h e a
    (set-each Q places (i % window) (get_or others (i % window) d) (a (i % window) d (omega (arith, mod-lt i h))) b)

copied-stand : (last window : ℕ) (is : List ℕ) (others places : List OpenRowView) → 0 < window → length others ≡ window → StandAbove last window others → StandAbove last window places → StandAbove last window (copied (blank_row 0 0 0) window is others places)
copied-stand last window [] others places h e a b = b
copied-stand last window (i ∷ is) others places h e a b =
    copied-stand last window is others (set places (i % window) (row_in others window i)) h e a
    (set-stand last window places (i % window) (row_in others window i) (λ m. a (i % window) (omega (arith, mod-lt i h)) m) b)

-- at the place of each of these stands what the others have there
abbrev pub AreTheirs : {A : Type 0} → (d : A) → (window : ℕ) → (others places : List A) → List ℕ → Type 0
AreTheirs d window others places js = AllByRecursion (λ j. get_or places (j % window) d ≡ get_or others (j % window) d) js

stays_theirs : {A : Type 0} → (d : A) (window j : ℕ) (is : List ℕ) (others places : List A) → 0 < window → length places ≡ window → get_or places (j % window) d ≡ get_or others (j % window) d → get_or (copied d window is others places) (j % window) d ≡ get_or others (j % window) d
stays_theirs d window j [] others places h e q = q
stays_theirs d window j (i ∷ is) others places h e q =
    stays_theirs d window j is others (set places (i % window) (get_or others (i % window) d)) h (length-set places (i % window) (get_or others (i % window) d) ∙ e) (elim (cases_eq (i % window) (j % window)) [
      | inl m ↦ get_or-set_at places (i % window) (j % window) (get_or others (i % window) d) d (sym m) (omega (arith, mod-lt i h)) ∙ ap (λ k. get_or others k d) m
      | inr m ↦ get_or-set_other places (i % window) (j % window) (get_or others (i % window) d) d (λ n. m (sym n)) ∙ q
    ])

still_theirs : {A : Type 0} → (d : A) (window : ℕ) (is js : List ℕ) (others places : List A) → 0 < window → length places ≡ window → AreTheirs d window others places js → AreTheirs d window others (copied d window is others places) js
still_theirs d window is [] others places h e a = tt
still_theirs d window is (j ∷ js) others places h e a = (stays_theirs d window j is others places h e a.0, still_theirs d window is js others places h e a.1)

pub now_theirs : {A : Type 0} → (d : A) (window : ℕ) (is : List ℕ) (others places : List A) → 0 < window → length places ≡ window → AreTheirs d window others (copied d window is others places) is
now_theirs d window [] others places h e = tt
now_theirs d window (i ∷ is) others places h e =
    let next : length (set places (i % window) (get_or others (i % window) d)) ≡ window = length-set places (i % window) (get_or others (i % window) d) ∙ e in (
      stays_theirs d window i is others (set places (i % window) (get_or others (i % window) d)) h next
          (get_or-set_same places (i % window) (get_or others (i % window) d) d (omega (arith, mod-lt i h))),
      now_theirs d window is others (set places (i % window) (get_or others (i % window) d)) h next,
    )

-- a copy of open rows and then of closed ones

abbrev pub held_copied : (window : ℕ) → (is cs : List ℕ) → (others places : List OpenRowView) → List OpenRowView
held_copied window is cs others places = copied (blank_row 0 0 0) window cs others (copied (blank_row 0 0 0) window is others places)

pub held-length : (window : ℕ) (is cs : List ℕ) (others places : List OpenRowView) → length (held_copied window is cs others places) ≡ length places
held-length window is cs others places = copied-length (blank_row 0 0 0) window cs others (copied (blank_row 0 0 0) window is others places) ∙ copied-length (blank_row 0 0 0) window is others places

pub open_theirs : (window : ℕ) (is cs : List ℕ) (others places : List OpenRowView) → 0 < window → length places ≡ window → AreTheirs (blank_row 0 0 0) window others (held_copied window is cs others places) is
open_theirs window is cs others places h e =
    still_theirs (blank_row 0 0 0) window cs is others (copied (blank_row 0 0 0) window is others places) h (copied-length (blank_row 0 0 0) window is others places ∙ e) (now_theirs (blank_row 0 0 0) window is others places h e)

pub closed_theirs : (window : ℕ) (is cs : List ℕ) (others places : List OpenRowView) → 0 < window → length places ≡ window → AreTheirs (blank_row 0 0 0) window others (held_copied window is cs others places) cs
closed_theirs window is cs others places h e = now_theirs (blank_row 0 0 0) window cs others (copied (blank_row 0 0 0) window is others places) h (copied-length (blank_row 0 0 0) window is others places ∙ e)

pub held-each : (Q : OpenRowView → Type 0) (window : ℕ) (is cs : List ℕ) (others places : List OpenRowView) → 0 < window → length others ≡ window → All Q others → All Q places → All Q (held_copied window is cs others places)
held-each Q window is cs others places h e a b =
    copied-each Q (blank_row 0 0 0) window cs others (copied (blank_row 0 0 0) window is others places) h e a (copied-each Q (blank_row 0 0 0) window is others places h e a b)

pub held-stand : (last window : ℕ) (is cs : List ℕ) (others places : List OpenRowView) → 0 < window → length others ≡ window → StandAbove last window others → StandAbove last window places → StandAbove last window (held_copied window is cs others places)
held-stand last window is cs others places h e a b = copied-stand last window cs others (copied (blank_row 0 0 0) window is others places) h e a (copied-stand last window is others places h e a b)

-- what is held

pub their_placed : (window : ℕ) (others places : List OpenRowView) (js : List ℕ) → AreTheirs (blank_row 0 0 0) window others places js → ArePlaced others window js → ArePlaced places window js
their_placed window others places [] a p = tt
their_placed window others places (j ∷ js) a p = (ap (λ (row : OpenRowView). row.instant) a.0 ∙ p.0, their_placed window others places js a.1 p.1)

-- with the ages of the others
pub their_rows : (window : ℕ) (others places : List OpenRowView) (ages : List ℕ) (js : List ℕ) → 0 < window → length others ≡ window → length places ≡ window → length ages ≡ window → AreTheirs (blank_row 0 0 0) window others places js → rows_in (with_ages places ages) window js ≡ rows_in (with_ages others ages) window js
their_rows window others places ages [] h e k l a = refl
their_rows window others places ages (j ∷ js) h e k l a =
    rw (aged_row places ages window j h k l, aged_row others ages window j h e l, a.0, their_rows window others places ages js h e k l a.1) refl

pub their_closed : (window : ℕ) (others places : List OpenRowView) (ages : List ℕ) (layouts mine : List LayoutView) (js : List ℕ) → 0 < window → length others ≡ window → length places ≡ window → length ages ≡ window → AreTheirs (blank_row 0 0 0) window others places js → AreTheirs no_layout window layouts mine js → closed_rows (with_ages places ages) mine window js ≡ closed_rows (with_ages others ages) layouts window js
their_closed window others places ages layouts mine [] h e k l a b = refl
their_closed window others places ages layouts mine (j ∷ js) h e k l a b =
    rw (aged_row places ages window j h k l, aged_row others ages window j h e l, a.0, b.0, their_closed window others places ages layouts mine js h e k l a.1 b.1) refl

-- a row that was left is of no instant, and none above the last stays

-- the instant of each row is this one at most
abbrev pub AreAtMost : ℕ → List OpenRowView → Type 0
AreAtMost last places = All (λ (row : OpenRowView). row.instant ≤ last) places

low_at : (last window k : ℕ) (is : List ℕ) (places : List OpenRowView) → 0 < window → length places ≡ window → k < window → (get_or places k (blank_row 0 0 0)).instant ≤ last → (get_or (changed without_instant window is places) k (blank_row 0 0 0)).instant ≤ last
low_at last window k [] places h e l a = a
low_at last window k (i ∷ is) places h e l a =
    low_at last window k is (set places (i % window) (without_instant (row_in places window i))) h (length-set places (i % window) (without_instant (row_in places window i)) ∙ e) l (elim (cases_eq k (i % window)) [
      | inl m ↦ subst (λ (row : OpenRowView). row.instant ≤ last) (sym (get_or-set_at places (i % window) k (without_instant (row_in places window i)) (blank_row 0 0 0) m (omega arith))) (omega arith)
      | inr m ↦ subst (λ (row : OpenRowView). row.instant ≤ last) (sym (get_or-set_other places (i % window) k (without_instant (row_in places window i)) (blank_row 0 0 0) m)) a
    ])

left_at : (last window m : ℕ) (is : List ℕ) (places : List OpenRowView) → 0 < window → length places ≡ window → list_any (λ i. eqb i m) is ≡ true → (get_or (changed without_instant window is places) (m % window) (blank_row 0 0 0)).instant ≤ last
left_at last window m [] places h e a = absurd (false≢true a)
left_at last window m (i ∷ is) places h e a =
    let next : length (set places (i % window) (without_instant (row_in places window i))) ≡ window = length-set places (i % window) (without_instant (row_in places window i)) ∙ e in
    elim (cases_eq i m) [
      | inl q ↦ low_at last window (m % window) is (set places (i % window) (without_instant (row_in places window i))) h next (mod-lt m h)
          (subst (λ (row : OpenRowView). row.instant ≤ last) (sym (get_or-set_at places (i % window) (m % window) (without_instant (row_in places window i)) (blank_row 0 0 0) (ap (λ n. n % window) (sym q)) (omega (arith, mod-lt i h)))) (omega arith))
      | inr n ↦ left_at last window m is (set places (i % window) (without_instant (row_in places window i))) h next (sym (ap (λ b. b || list_any (λ j. eqb j m) is) (ne_eqb i m n)) ∙ a)
    ]

left_open : (last window : ℕ) (is : List ℕ) (places : List OpenRowView) → 0 < window → length places ≡ window → All (IsKnown last is) places → StandAbove last window places → AreAtMost last (changed without_instant window is places)
left_open last window is places h e a s k d l =
    let inside : k < window = omega (arith, changed-length without_instant window is places) in
    let low : (get_or (changed without_instant window is places) k (blank_row 0 0 0)).instant ≤ last = elim (cases_lt last (get_or places k (blank_row 0 0 0)).instant) [
      | inl m ↦ subst (λ n. (get_or (changed without_instant window is places) n (blank_row 0 0 0)).instant ≤ last) (s k (omega arith) m)
          (left_at last window (get_or places k (blank_row 0 0 0)).instant is places h e (a k (blank_row 0 0 0) (omega arith) m))
      | inr m ↦ low_at last window k is places h e inside (omega arith)
    ] in
    subst (λ (row : OpenRowView). row.instant ≤ last) (get_or_default (changed without_instant window is places) k (blank_row 0 0 0) d l) low

mapped_low : (last : ℕ) (places : List OpenRowView) → AreAtMost last (map without_instant places)
mapped_low last [] k d l = absurd (omega arith)
mapped_low last (row ∷ rows) zero d l = omega arith
mapped_low last (row ∷ rows) (suc k) d l = mapped_low last rows k d (omega arith)

mapped_sized : (s k : ℕ) (places : List OpenRowView) → All (HasPlaces s k) places → All (HasPlaces s k) (map without_instant places)
mapped_sized s k [] a n d l = absurd (omega arith)
mapped_sized s k (row ∷ rows) a zero d l = (let p : HasPlaces s k row = a 0 d (omega arith) in record { taken = p.taken; columns = p.columns })
mapped_sized s k (row ∷ rows) a (suc n) d l = mapped_sized s k rows (λ m e q. a (suc m) e (omega arith)) n d (omega arith)

-- the places after rows were left
abbrev pub left : (is_all : Bool) → (window : ℕ) → List ℕ → List OpenRowView → List OpenRowView
left is_all window is places = if is_all then map without_instant places else changed without_instant window is places

pub left-length : (b : Bool) (window : ℕ) (is : List ℕ) (places : List OpenRowView) → length (left b window is places) ≡ length places
left-length true window is places = length-map places without_instant
left-length false window is places = changed-length without_instant window is places

pub left-each : (b : Bool) (s k window : ℕ) (is : List ℕ) (places : List OpenRowView) → 0 < window → length places ≡ window → All (HasPlaces s k) places → All (HasPlaces s k) (left b window is places)
left-each true s k window is places h e a = mapped_sized s k places a
left-each false s k window is places h e a = changed-each (HasPlaces s k) without_instant (λ row p. record { taken = p.taken; columns = p.columns }) window is places h e a

at_most_more : (mine last : ℕ) (places : List OpenRowView) → mine ≤ last → AreAtMost mine places → AreAtMost last places
at_most_more mine last places m a k d l = omega (arith, a k d l)

-- where not all were left, the last of the others is no lower
pub left-low : (b : Bool) (last mine window : ℕ) (is : List ℕ) (places : List OpenRowView) → 0 < window → length places ≡ window → (b ≡ false → mine ≤ last) → All (IsKnown mine is) places → StandAbove mine window places → AreAtMost last (left b window is places)
left-low true last mine window is places h e q a s = mapped_low last places
left-low false last mine window is places h e q a s = at_most_more mine last (changed without_instant window is places) (q refl) (left_open mine window is places h e a s)

-- rows that low are known, and need not stand at their places
pub low-known : (last : ℕ) (is : List ℕ) (places : List OpenRowView) → AreAtMost last places → All (IsKnown last is) places
low-known last is places a k d l m = absurd (omega (arith, a k d l))

pub low-stand : (last window : ℕ) (places : List OpenRowView) → AreAtMost last places → StandAbove last window places
low-stand last window places a k l m = absurd (omega (arith, a k (blank_row 0 0 0) l))
