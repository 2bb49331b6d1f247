-- Rows at the places of their instants.
use Rattle.std.proofs.Common.{◌≡◌, ◌≢◌, ℕ, ◌+◌, ◌*◌, ◌/◌, ◌%◌, ◌<◌, ◌≤◌, Bool, true, false, cond, ◌||◌, eqb, ltb, List, [], ◌∷◌, ◌++◌, length, get_or, set, insert, map, take, drop, refl, sym, ◌∙◌, ap, subst, arith, inl, inr, Some, None, zero, suc}
use Rattle.std.proofs.Math.Nat.{div-add-mod, mod-lt, mul-le-mul_left, mul-suc}
use Rattle.std.specs.List.{All, AllByRecursion, list_all, list_any, prefix_len}
use Rattle.std.specs.List.Sorted.{IsNonDecreasingBy, IsPartitionPoint}
use Rattle.std.specs.Option.{unwrap_or}
use Rattle.std.proofs.lemmas.Bool.{cases_eq, cases_lt, eq-eqb, ne_eqb, false≢true, le-ltb, lt-ltb}
use Rattle.std.proofs.lemmas.Grind.{get_or-set_at}
use Rattle.std.proofs.lemmas.List.{drop-map, take-map, get_or_default, get_or-set_same, get_or-set_other, length-set}
use Rattle.std.proofs.lemmas.List.Sums.{prefix_len_is}
use Rattle.pdc_open_row.specs.pdc_row.Rising.{Rises, AreBelow, AreNear, is_near, place}
use Rattle.pdc_open_row.specs.pdc_row.RowView.{row_instants}
use Rattle.pdc_table.specs.Content.{Content, IsContent}
use Rattle.pdc_open_row.specs.pdc_row.RisingLaws.{RisingLaws, AreAllNear, Below, At, Above}
use Rattle.pdc_table.specs.Closing.{closing, staying}
use Rattle.pdc_open_row.specs.Due.{is_due}
use Rattle.pdc_table.specs.OpenInstants.{instants_of}
use Rattle.pdc_table.specs.Placing.{row_at, with_row}
use Rattle.pdc_table.specs.RingRows.{StandAbove, changed, met_row, row_in, rows_in}
use Rattle.pdc_open_row.specs.Views.{OpenRowView, blank_row}
use Rattle.pdc_open_row.specs.declared.wait_rule.WaitRule.{WaitRule}
use Rattle.pdc_table.proofs.Closes.{back_is, front_is, front_length}
use Rattle.pdc_table.proofs.RowAt.{beyond, here, row_above}

-- at the place of each instant stands its row
abbrev pub ArePlaced : List OpenRowView → ℕ → List ℕ → Type 0
ArePlaced places window instants = AllByRecursion (λ i. (row_in places window i).instant ≡ i) instants

-- the place of i is that of none of these
abbrev pub IsApart : ℕ → ℕ → List ℕ → Type 0
IsApart window i instants = AllByRecursion (λ j. i % window ≢ j % window) instants

too_near : (w a b r i j : ℕ) → w * a + r ≡ i → w * b + r ≡ j → i < j → j < i + w → ⊥
too_near w a b r i j e f l m = elim (cases_lt a b) [
  | inl h ↦ (let more : w * suc a ≤ w * b = mul-le-mul_left w (omega arith) in omega (arith, mul-suc w a))
  | inr h ↦ (let less : w * b ≤ w * a = mul-le-mul_left w h in omega arith)
]

-- two instants less than the window apart have two places
pub apart_by : (window i j : ℕ) → i < j → j < i + window → i % window ≢ j % window
apart_by window i j l m e =
    too_near window (i / window) (j / window) (i % window) i j (div-add-mod i window) (ap (λ r. window * (j / window) + r) e ∙ div-add-mod j window) l m

pub apart_higher : (window i low : ℕ) (ns : List ℕ) → i ≤ low → Rises low ns → AreBelow (i + window) ns → IsApart window i ns
apart_higher window i low [] l r b = tt
apart_higher window i low (n ∷ ns) l r b = (apart_by window i n (omega (arith, r.0)) b.0, apart_higher window i n ns (omega (arith, r.0)) r.1 b.1)

near_back : (window i : ℕ) (cs js : List ℕ) → AreAllNear window i (cs ++ js) → AreAllNear window i js
near_back window i [] js h = h
near_back window i (c ∷ cs) js h = near_back window i cs js h.1

-- the row at a place, after a write

pub row_here : (places : List OpenRowView) (window i : ℕ) (row : OpenRowView) → 0 < window → length places ≡ window → row_in (set places (i % window) row) window i ≡ row
row_here places window i row h e = get_or-set_same places (i % window) row (blank_row 0 0 0) (omega (arith, mod-lt i h))

pub row_else : (places : List OpenRowView) (window i j : ℕ) (row : OpenRowView) → i % window ≢ j % window → row_in (set places (i % window) row) window j ≡ row_in places window j
row_else places window i j row n = get_or-set_other places (i % window) (j % window) row (blank_row 0 0 0) (λ e. n (sym e))

rows_else : (places : List OpenRowView) (window i : ℕ) (row : OpenRowView) (js : List ℕ) → IsApart window i js → rows_in (set places (i % window) row) window js ≡ rows_in places window js
rows_else places window i row [] a = refl
rows_else places window i row (j ∷ js) a = rw (row_else places window i j row a.0, rows_else places window i row js a.1) refl

-- a change at each of some instants

pub changed-length : (f : OpenRowView → OpenRowView) (window : ℕ) (is : List ℕ) (places : List OpenRowView) → length (changed f window is places) ≡ length places
changed-length f window [] places = refl
changed-length f window (i ∷ is) places = changed-length f window is (set places (i % window) (f (row_in places window i))) ∙ length-set places (i % window) (f (row_in places window i))

pub changed-else : (f : OpenRowView → OpenRowView) (window j : ℕ) (is : List ℕ) (places : List OpenRowView) → IsApart window j is → row_in (changed f window is places) window j ≡ row_in places window j
changed-else f window j [] places a = refl
changed-else f window j (i ∷ is) places a =
    changed-else f window j is (set places (i % window) (f (row_in places window i))) a.1 ∙ row_else places window i j (f (row_in places window i)) (λ e. a.0 (sym e))

pub set-each : (Q : OpenRowView → Type 0) (places : List OpenRowView) (k : ℕ) (row : OpenRowView) → Q row → All Q places → All Q (set places k row)
set-each Q places k row q a n d l = elim (cases_eq n k) [
  | inl e ↦ subst Q (sym (get_or-set_at places k n row d e (omega (arith, length-set places k row)))) q
  | inr m ↦ subst Q (sym (get_or-set_other places k n row d m)) (a n d (omega (arith, length-set places k row)))
]

pub changed-each : (Q : OpenRowView → Type 0) (f : OpenRowView → OpenRowView) → ((row : OpenRowView) → Q row → Q (f row)) → (window : ℕ) (is : List ℕ) (places : List OpenRowView) → 0 < window → length places ≡ window → All Q places → All Q (changed f window is places)
changed-each Q f q window [] places h e a = a
changed-each Q f q window (i ∷ is) places h e a =
    changed-each Q f q window is (set places (i % window) (f (row_in places window i))) h (length-set places (i % window) (f (row_in places window i)) ∙ e)
    (set-each Q places (i % window) (f (row_in places window i)) (q (row_in places window i) (a (i % window) (blank_row 0 0 0) (omega (arith, mod-lt i h)))) a)

-- rows above an instant that stand at their places

pub set-stand : (last window : ℕ) (places : List OpenRowView) (k : ℕ) (row : OpenRowView) → (last < row.instant → row.instant % window ≡ k) → StandAbove last window places → StandAbove last window (set places k row)
set-stand last window places k row q a n l m = elim (cases_eq n k) [
  | inl e ↦ subst (λ (r : OpenRowView). last < r.instant → r.instant % window ≡ n) (sym (get_or-set_at places k n row (blank_row 0 0 0) e (omega (arith, length-set places k row)))) (λ x. q x ∙ sym e) m
  | inr d ↦ subst (λ (r : OpenRowView). last < r.instant → r.instant % window ≡ n) (sym (get_or-set_other places k n row (blank_row 0 0 0) d)) (a n (omega (arith, length-set places k row))) m
]

pub changed-stand : (f : OpenRowView → OpenRowView) → ((row : OpenRowView) → (f row).instant ≡ row.instant) → (last window : ℕ) (is : List ℕ) (places : List OpenRowView) → 0 < window → length places ≡ window → StandAbove last window places → StandAbove last window (changed f window is places)
changed-stand f g last window [] places h e a = a
changed-stand f g last window (i ∷ is) places h e a =
    changed-stand f g last window is (set places (i % window) (f (row_in places window i))) h (length-set places (i % window) (f (row_in places window i)) ∙ e)
    (set-stand last window places (i % window) (f (row_in places window i)) (λ m. ap (λ n. n % window) (g (row_in places window i)) ∙ a (i % window) (omega (arith, mod-lt i h)) (subst (λ n. last < n) (g (row_in places window i)) m)) a)

changed-instant : (f : OpenRowView → OpenRowView) → ((row : OpenRowView) → (f row).instant ≡ row.instant) → (window : ℕ) (is : List ℕ) (places : List OpenRowView) (j : ℕ) → 0 < window → length places ≡ window → (row_in (changed f window is places) window j).instant ≡ (row_in places window j).instant
changed-instant f g window [] places j h e = refl
changed-instant f g window (i ∷ is) places j h e =
    changed-instant f g window is (set places (i % window) (f (row_in places window i))) j h (length-set places (i % window) (f (row_in places window i)) ∙ e)
    ∙ elim (cases_eq (i % window) (j % window)) [
      | inl m ↦ ap (λ (row : OpenRowView). row.instant) (get_or-set_at places (i % window) (j % window) (f (row_in places window i)) (blank_row 0 0 0) (sym m) (omega (arith, mod-lt i h)))
          ∙ g (row_in places window i) ∙ ap (λ k. (get_or places k (blank_row 0 0 0)).instant) m
      | inr m ↦ ap (λ (row : OpenRowView). row.instant) (row_else places window i j (f (row_in places window i)) m)
    ]

placed_same : (a b : List OpenRowView) (window : ℕ) → ((j : ℕ) → (row_in a window j).instant ≡ (row_in b window j).instant) → (js : List ℕ) → ArePlaced b window js → ArePlaced a window js
placed_same a b window h [] p = tt
placed_same a b window h (j ∷ js) p = (h j ∙ p.0, placed_same a b window h js p.1)

pub changed-placed : (f : OpenRowView → OpenRowView) → ((row : OpenRowView) → (f row).instant ≡ row.instant) → (window : ℕ) (is : List ℕ) (places : List OpenRowView) → 0 < window → length places ≡ window → (js : List ℕ) → ArePlaced places window js → ArePlaced (changed f window is places) window js
changed-placed f g window is places h e js p = placed_same (changed f window is places) places window (λ j. changed-instant f g window is places j h e) js p

-- the rows have the instants that are open
pub instants_in : (places : List OpenRowView) (window : ℕ) (is : List ℕ) → ArePlaced places window is → instants_of (rows_in places window is) ≡ is
instants_in places window [] p = refl
instants_in places window (i ∷ is) p = rw (p.0, instants_in places window is p.1) refl

pub placed-take : (places : List OpenRowView) (window n : ℕ) (is : List ℕ) → ArePlaced places window is → ArePlaced places window (take n is)
placed-take places window zero is p = tt
placed-take places window (suc n) [] p = tt
placed-take places window (suc n) (i ∷ is) p = (p.0, placed-take places window n is p.1)

pub placed-drop : (places : List OpenRowView) (window n : ℕ) (is : List ℕ) → ArePlaced places window is → ArePlaced places window (drop n is)
placed-drop places window zero is p = p
placed-drop places window (suc n) [] p = tt
placed-drop places window (suc n) (i ∷ is) p = placed-drop places window n is p.1

pub absent_from : (places : List OpenRowView) (window i : ℕ) (is : List ℕ) → ArePlaced places window is → ((row_in places window i).instant ≡ i → ⊥) → All (λ j. j ≡ i → ⊥) is
absent_from places window i [] p n k d l e = omega arith
absent_from places window i (j ∷ js) p n zero d l e = n (ap (λ m. (row_in places window m).instant) (sym e) ∙ p.0 ∙ e)
absent_from places window i (j ∷ js) p n (suc k) d l e = absent_from places window i js p.1 n k d (omega arith) e

-- among the rows, that of an instant is the one at its place, if it is open
row_of_open : (places : List OpenRowView) (window i : ℕ) (is : List ℕ) → ArePlaced places window is → list_any (λ j. eqb j i) is ≡ true → row_at i (rows_in places window is) ≡ Some (row_in places window i)
row_of_open places window i [] p e = absurd (false≢true e)
row_of_open places window i (j ∷ js) p e = elim (cases_eq j i) [
  | inl q ↦ ap (λ b. cond b (Some (row_in places window j)) (row_at i (rows_in places window js))) (eq-eqb (row_in places window j).instant i (p.0 ∙ q)) ∙ ap (λ m. Some (row_in places window m)) q
  | inr n ↦ (let rest : list_any (λ m. eqb m i) js ≡ true = sym (ap (λ b. b || list_any (λ m. eqb m i) js) (ne_eqb j i n)) ∙ e in
      ap (λ b. cond b (Some (row_in places window j)) (row_at i (rows_in places window js))) (ne_eqb (row_in places window j).instant i (λ q. n (sym p.0 ∙ q))) ∙ row_of_open places window i js p.1 rest)
]

row_of_none : (places : List OpenRowView) (window i : ℕ) (is : List ℕ) → ArePlaced places window is → All (λ j. j ≡ i → ⊥) is → row_at i (rows_in places window is) ≡ None
row_of_none places window i [] p n = refl
row_of_none places window i (j ∷ js) p n =
    ap (λ b. cond b (Some (row_in places window j)) (row_at i (rows_in places window js))) (ne_eqb (row_in places window j).instant i (λ q. n 0 j (omega arith) (sym p.0 ∙ q)))
    ∙ row_of_none places window i js p.1 (λ k d l. n (suc k) d (omega arith))

-- an instant above the last is open where its row stands at its place
pub met_is : (places : List OpenRowView) (window i : ℕ) (is : List ℕ) → ArePlaced places window is → ((row_in places window i).instant ≡ i → list_any (λ j. eqb j i) is ≡ true) → row_at i (rows_in places window is) ≡ met_row i (row_in places window i)
met_is places window i is p k = elim (cases_eq (row_in places window i).instant i) [
  | inl e ↦ row_of_open places window i is p (k e) ∙ ap (λ b. cond b (Some (row_in places window i)) None) (sym (eq-eqb (row_in places window i).instant i e))
  | inr n ↦ row_of_none places window i is p (absent_from places window i is p n) ∙ ap (λ b. cond b (Some (row_in places window i)) None) (sym (ne_eqb (row_in places window i).instant i n))
]

-- a write at the place of an instant is a change to its row

-- all of these but i are apart from it
abbrev pub AreApartBut : ℕ → ℕ → List ℕ → Type 0
AreApartBut window i instants = AllByRecursion (λ j. j ≢ i → i % window ≢ j % window) instants

pub apart_but : (window i low : ℕ) (js : List ℕ) → i ≤ low → Rises low js → AreApartBut window i js → IsApart window i js
apart_but window i low [] l r a = tt
apart_but window i low (j ∷ js) l r a = (a.0 (λ e. omega (arith, r.0)), apart_but window i j js (omega (arith, r.0)) r.1 a.1)

pub point_is_rank : (ns : List ℕ) (instant k : ℕ) → IsPartitionPoint (λ n. ltb n instant ≡ true) (λ n. ltb n instant ≡ false) ns k → k ≤ length ns → k ≡ prefix_len (λ n. ltb n instant) ns
point_is_rank ns instant k p h = sym (prefix_len_is (λ n. ltb n instant) ns k 0 h (λ j l. p.0 j 0 (omega arith) l) (λ l. p.1 k 0 (omega arith) l))

-- what closes is the front of the open instants

rising_in : (places : List OpenRowView) (window low : ℕ) (is : List ℕ) → Rises low is → ArePlaced places window is → Rises low (instants_of (rows_in places window is))
rising_in places window low is r p = subst (λ ns. Rises low ns) (sym (instants_in places window is p)) r

pub length_in : (required : List Bool) (rule : WaitRule) (low : ℕ) (places : List OpenRowView) (window : ℕ) (is seen : List ℕ) (n : ℕ) → seen ≡ is → n ≡ prefix_len (is_due required rule) (rows_in places window seen) → Rises low is → ArePlaced places window is → n ≡ length (closing required rule (rows_in places window is))
length_in required rule low places window is seen n e k r p =
    front_length required rule low (rows_in places window is) (rows_in places window seen) n (ap (rows_in places window) e) k (rising_in places window low is r p)

pub front_in : (required : List Bool) (rule : WaitRule) (low : ℕ) (places : List OpenRowView) (window : ℕ) (is seen : List ℕ) (n : ℕ) → seen ≡ is → n ≡ prefix_len (is_due required rule) (rows_in places window seen) → Rises low is → ArePlaced places window is → rows_in places window (take n seen) ≡ closing required rule (rows_in places window is)
front_in required rule low places window is seen n e k r p =
    sym (take-map (row_in places window) n seen)
    ∙ front_is required rule low (rows_in places window is) (rows_in places window seen) n (ap (rows_in places window) e) k (rising_in places window low is r p)

pub back_in : (required : List Bool) (rule : WaitRule) (low : ℕ) (places : List OpenRowView) (window : ℕ) (is seen : List ℕ) (n : ℕ) → seen ≡ is → n ≡ prefix_len (is_due required rule) (rows_in places window seen) → Rises low is → ArePlaced places window is → rows_in places window (drop n is) ≡ staying required rule (rows_in places window is)
back_in required rule low places window is seen n e k r p =
    sym (drop-map (row_in places window) n is)
    ∙ back_is required rule low (rows_in places window is) (rows_in places window seen) n (ap (rows_in places window) e) k (rising_in places window low is r p)

-- ---- what follows from the laws of rising numbers

module _ (R : RisingLaws) where
  pub apart_pair : (window i j : ℕ) → i < j + window → j < i + window → j ≢ i → i % window ≢ j % window
  apart_pair window i j h k n e = elim (R.compared i j) [
    | Below l ↦ apart_by window i j l k e
    | At q ↦ n q
    | Above g ↦ apart_by window j i g h (sym e)
  ]

  pub changed-rows : (f : OpenRowView → OpenRowView) (window low : ℕ) (is : List ℕ) (places : List OpenRowView) → 0 < window → length places ≡ window → Rises low is → AreNear window is → rows_in (changed f window is places) window is ≡ map f (rows_in places window is)
  changed-rows f window low [] places h e r n = refl
  changed-rows f window low (i ∷ is) places h e r n =
      let next : List OpenRowView = set places (i % window) (f (row_in places window i)) in
      let apart : IsApart window i is = apart_higher window i i is (omega arith) r.1 n in
      let first : row_in (changed f window is next) window i ≡ f (row_in places window i) =
      changed-else f window i is next apart ∙ row_here places window i (f (row_in places window i)) h e in
      let rest : rows_in (changed f window is next) window is ≡ map f (rows_in places window is) =
      changed-rows f window i is next h (length-set places (i % window) (f (row_in places window i)) ∙ e) r.1 (R.near_tail low window i is r n)
      ∙ ap (map f) (rows_else places window i (f (row_in places window i)) is apart) in
      rw (first, rest) refl

  pub put_row : (change : OpenRowView → OpenRowView) (fresh row : OpenRowView) (places : List OpenRowView) (window low : ℕ) (is : List ℕ) → 0 < window → length places ≡ window → Rises low is → ArePlaced places window is → AreApartBut window fresh.instant is → row ≡ change (unwrap_or (row_at fresh.instant (rows_in places window is)) fresh) → rows_in (set places (fresh.instant % window) row) window (place fresh.instant is) ≡ with_row change fresh (rows_in places window is)
  put_row change fresh row places window low [] h e r p a q = rw (row_here places window fresh.instant row h e, q) refl
  put_row change fresh row places window low (j ∷ js) h e r p a q = elim (R.compared fresh.instant j) [
    | Below l ↦ (let apart : IsApart window fresh.instant (j ∷ js) = apart_but window fresh.instant fresh.instant (j ∷ js) (omega arith) (l, r.1) a in
        let none : row_at fresh.instant (rows_in places window (j ∷ js)) ≡ None = row_above fresh.instant fresh.instant (rows_in places window (j ∷ js)) (omega arith) (subst (λ ns. Rises fresh.instant ns) (sym (instants_in places window (j ∷ js) p)) (l, r.1)) in
        let is : row ≡ change fresh = q ∙ ap (λ o. change (unwrap_or o fresh)) none in
        ap (rows_in (set places (fresh.instant % window) row) window) (R.place_lower fresh.instant j js l)
        ∙ ap (λ x. x ∷ rows_in (set places (fresh.instant % window) row) window (j ∷ js)) (row_here places window fresh.instant row h e ∙ is)
        ∙ ap (λ xs. change fresh ∷ xs) (rows_else places window fresh.instant row (j ∷ js) apart)
        ∙ ap (λ b. cond b (change fresh ∷ rows_in places window (j ∷ js)) (cond (eqb (row_in places window j).instant fresh.instant) (change (row_in places window j) ∷ rows_in places window js) (row_in places window j ∷ with_row change fresh (rows_in places window js)))) (sym (lt-ltb fresh.instant (row_in places window j).instant (omega (arith, p.0)))))
    | At k ↦ (let apart : IsApart window fresh.instant js = apart_but window fresh.instant j js (omega arith) r.1 a.1 in
        let found : row_at fresh.instant (rows_in places window (j ∷ js)) ≡ Some (row_in places window j) = here fresh.instant (row_in places window j) (rows_in places window js) (p.0 ∙ k) in
        let is : row ≡ change (row_in places window j) = q ∙ ap (λ o. change (unwrap_or o fresh)) found in
        ap (rows_in (set places (fresh.instant % window) row) window) (R.place_same fresh.instant j js k)
        ∙ ap (λ m. row_in (set places (fresh.instant % window) row) window m ∷ rows_in (set places (fresh.instant % window) row) window js) k
        ∙ ap (λ x. x ∷ rows_in (set places (fresh.instant % window) row) window js) (row_here places window fresh.instant row h e ∙ is)
        ∙ ap (λ xs. change (row_in places window j) ∷ xs) (rows_else places window fresh.instant row js apart)
        ∙ ap (λ b. cond b (change (row_in places window j) ∷ rows_in places window js) (row_in places window j ∷ with_row change fresh (rows_in places window js))) (sym (eq-eqb (row_in places window j).instant fresh.instant (p.0 ∙ k)))
        ∙ ap (λ b. cond b (change fresh ∷ rows_in places window (j ∷ js)) (cond (eqb (row_in places window j).instant fresh.instant) (change (row_in places window j) ∷ rows_in places window js) (row_in places window j ∷ with_row change fresh (rows_in places window js)))) (sym (le-ltb fresh.instant (row_in places window j).instant (omega (arith, p.0)))))
    | Above g ↦ (let other : row_at fresh.instant (rows_in places window (j ∷ js)) ≡ row_at fresh.instant (rows_in places window js) = beyond fresh.instant (row_in places window j) (rows_in places window js) (λ m. omega (arith, p.0)) in
        let rest : rows_in (set places (fresh.instant % window) row) window (place fresh.instant js) ≡ with_row change fresh (rows_in places window js) =
        put_row change fresh row places window j js h e r.1 p.1 a.1 (q ∙ ap (λ o. change (unwrap_or o fresh)) other) in
        ap (rows_in (set places (fresh.instant % window) row) window) (R.place_higher fresh.instant j js g)
        ∙ ap (λ x. x ∷ rows_in (set places (fresh.instant % window) row) window (place fresh.instant js)) (row_else places window fresh.instant j row (a.0 (λ m. omega arith)))
        ∙ ap (λ xs. row_in places window j ∷ xs) rest
        ∙ ap (λ b. cond b (change (row_in places window j) ∷ rows_in places window js) (row_in places window j ∷ with_row change fresh (rows_in places window js))) (sym (ne_eqb (row_in places window j).instant fresh.instant (λ m. omega (arith, p.0))))
        ∙ ap (λ b. cond b (change fresh ∷ rows_in places window (j ∷ js)) (cond (eqb (row_in places window j).instant fresh.instant) (change (row_in places window j) ∷ rows_in places window js) (row_in places window j ∷ with_row change fresh (rows_in places window js)))) (sym (le-ltb fresh.instant (row_in places window j).instant (omega (arith, p.0)))))
  ]

  near_but : (window i : ℕ) (js : List ℕ) → AreAllNear window i js → AreApartBut window i js
  near_but window i [] h = tt
  near_but window i (j ∷ js) h = ((λ n. apart_pair window i j h.0.0 h.0.1 n), near_but window i js h.1)

  pub near_apart : (window i : ℕ) (cs js : List ℕ) → list_all (is_near window i) (cs ++ js) ≡ true → AreApartBut window i js
  near_apart window i cs js h = near_but window i js (near_back window i cs js (R.all_near window i (cs ++ js) h))

  -- an instant put into its place among rising ones

  pub numbers_do_not_fall : (low : ℕ) (ns : List ℕ) → Rises low ns → IsNonDecreasingBy (λ n. n) ns
  numbers_do_not_fall low ns r i j d h k = elim (cases_lt i j) [
    | inl l ↦ (let s : get_or ns i 0 < get_or ns j 0 = R.rises_order low ns i j r l k in omega (arith, get_or_default ns i d 0 (omega arith), get_or_default ns j d 0 k))
    | inr l ↦ (let e : i ≡ j = omega arith in rw e (omega arith))
  ]

  pub insert_is_place : (low i : ℕ) (ns : List ℕ) → Rises low ns → All (λ n. n ≡ i → ⊥) ns → insert ns (prefix_len (λ n. ltb n i) ns) i ≡ place i ns
  insert_is_place low i [] r a = refl
  insert_is_place low i (n ∷ ns) r a = elim (R.compared i n) [
    | Below l ↦ ap (λ b. insert (n ∷ ns) (cond b (1 + prefix_len (λ m. ltb m i) ns) 0) i) (le-ltb n i (omega arith)) ∙ sym (R.place_lower i n ns l)
    | At e ↦ absurd (a 0 n (omega arith) e)
    | Above g ↦ (let k : 1 + prefix_len (λ m. ltb m i) ns ≡ suc (prefix_len (λ m. ltb m i) ns) = omega arith in
        ap (λ b. insert (n ∷ ns) (cond b (1 + prefix_len (λ m. ltb m i) ns) 0) i) (lt-ltb n i g) ∙ ap (λ m. insert (n ∷ ns) m i) k
        ∙ ap (λ ms. n ∷ ms) (insert_is_place n i ns r.1 (λ j d l. a (suc j) d (omega arith))) ∙ sym (R.place_higher i n ns g))
  ]

  -- the open instants of a table rise, and are near each other
  near_after : (window : ℕ) (cs os : List ℕ) → AreNear window (cs ++ os) → Rises 0 (cs ++ os) → AreNear window os
  near_after window [] os n r = n
  near_after window (c ∷ cs) os n r = near_after window cs os (R.near_tail 0 window c (cs ++ os) r n) (R.rises_above 0 c (cs ++ os) (omega arith) r.1)

  pub near_open : (c : Content) (places : List OpenRowView) (is : List ℕ) → ArePlaced places c.window is → IsContent (record c { open_rows = rows_in places c.window is }) → Rises c.last is × AreNear c.window is
  near_open c places is p h =
      let e : instants_of (rows_in places c.window is) ≡ is = instants_in places c.window is p in (
        subst (λ ns. Rises c.last ns) e h.open_above,
        near_after c.window (row_instants c.closed) is (subst (λ ns. AreNear c.window (row_instants c.closed ++ ns)) e h.held_near) (subst (λ ns. Rises 0 (row_instants c.closed ++ ns)) e h.held_rise),
      )

  -- a change at each open instant is a change to each row
  pub changed-open : (f : OpenRowView → OpenRowView) (c : Content) (places now : List OpenRowView) (is seen : List ℕ) → seen ≡ is → now ≡ changed f c.window seen places → length places ≡ c.window → ArePlaced places c.window is → IsContent (record c { open_rows = rows_in places c.window is }) → rows_in now c.window is ≡ map f (rows_in places c.window is)
  changed-open f c places now is seen s e l p h =
      ap (λ ps. rows_in ps c.window is) (e ∙ ap (λ js. changed f c.window js places) s)
      ∙ changed-rows f c.window c.last is places (omega (arith, h.window_least)) l (near_open c places is p h).0 (near_open c places is p h).1
