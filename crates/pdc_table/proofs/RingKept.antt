-- What each step of a ring keeps.
use Rattle.std.proofs.Common.{◌≡◌, ℕ, ◌+◌, ◌%◌, ◌<◌, Bool, true, false, cond, ◌||◌, if◌then◌else◌, eqb, List, [], ◌∷◌, length, get_or, set, take, drop, refl, sym, ◌∙◌, ap, subst, arith, inl, inr, Option, Some, None, zero, suc}
use Rattle.std.proofs.Math.Nat.{mod-lt}
use Rattle.std.specs.List.{All, list_any}
use Rattle.std.specs.Option.{unwrap_or}
use Rattle.std.proofs.lemmas.Bool.{cases_eq, cases_Bool, eq-eqb, ne_eqb, false≢true}
use Rattle.std.proofs.lemmas.List.{length-set}
use Rattle.pdc_open_row.specs.pdc_row.CellView.{CellView}
use Rattle.pdc_open_row.specs.pdc_row.Quality.{greatest}
use Rattle.pdc_open_row.specs.pdc_row.Rising.{Rises, AreBelow, place}
use Rattle.pdc_open_row.specs.pdc_row.RisingLaws.{RisingLaws, Below, At, Above}
use Rattle.pdc_table.specs.Content.{Content, HasPlaces, IsContent, streams_of}
use Rattle.pdc_table.specs.Placing.{row_at, with_row}
use Rattle.pdc_table.specs.RingRows.{StandAbove, base_row, changed, met_row, row_in, rows_in}
use Rattle.pdc_open_row.specs.Taking.{answer_at, is_taken, with_frame}
use Rattle.pdc_open_row.specs.Views.{OpenRowView, blank_row}
use Rattle.pdc_open_row.specs.declared.outcome.PutOutcome.{PutOutcome}
use Rattle.pdc_table.proofs.Keeps.{places-blank, places-frame}
use Rattle.pdc_table.proofs.RingRows.{AreApartBut, ArePlaced, IsApart, apart_but, changed-each, changed-length, changed-placed, changed-stand, met_is, placed-drop, put_row, row_else, row_here, set-each, set-stand}

-- a row of an instant above the last is that of an open one
abbrev pub IsKnown : ℕ → List ℕ → OpenRowView → Type 0
IsKnown last is row = last < row.instant → list_any (λ i. eqb i row.instant) is ≡ true

pub record IsRing (window last streams width : ℕ) (places : List OpenRowView) (is : List ℕ) : Type 0 where
  pub size : length places ≡ window
  pub each : All (HasPlaces streams width) places
  pub placed : ArePlaced places window is
  pub known : All (IsKnown last is) places
  pub stand : StandAbove last window places

pub ring_changed : (f : OpenRowView → OpenRowView) → ((row : OpenRowView) → (f row).instant ≡ row.instant) → (window last s k : ℕ) → ((row : OpenRowView) → HasPlaces s k row → HasPlaces s k (f row)) → (places : List OpenRowView) (is js : List ℕ) → 0 < window → IsRing window last s k places is → IsRing window last s k (changed f window js places) is
ring_changed f g window last s k q places is js h r = record {
  size = changed-length f window js places ∙ r.size;
  each = changed-each (HasPlaces s k) f q window js places h r.size r.each;
  placed = changed-placed f g window js places h r.size is r.placed;
  known = changed-each (IsKnown last is) f (λ row n. subst (λ m. last < m → list_any (λ i. eqb i m) is ≡ true) (sym (g row)) n) window js places h r.size r.known;
  stand = changed-stand f g last window js places h r.size r.stand;
}

any_behind : (n m : ℕ) (is : List ℕ) → AreBelow m (take n is) → list_any (λ i. eqb i m) is ≡ true → list_any (λ i. eqb i m) (drop n is) ≡ true
any_behind zero m is b h = h
any_behind (suc n) m [] b h = h
any_behind (suc n) m (i ∷ is) b h = any_behind n m is b.1 (sym (ap (λ c. c || list_any (λ j. eqb j m) is) (ne_eqb i m (λ e. omega (arith, b.0)))) ∙ h)

-- an instant in its place among rising ones

any_one : (m i : ℕ) (is : List ℕ) → i ≡ m → list_any (λ j. eqb j m) (i ∷ is) ≡ true
any_one m i is e = ap (λ b. b || list_any (λ j. eqb j m) is) (eq-eqb i m e)

any_either : (a b : Bool) → b ≡ true → (a || b) ≡ true
any_either true b e = refl
any_either false b e = e

any_more : (m i : ℕ) (is : List ℕ) → list_any (λ j. eqb j m) is ≡ true → list_any (λ j. eqb j m) (i ∷ is) ≡ true
any_more m i is e = any_either (eqb i m) (list_any (λ j. eqb j m) is) e

any_cons : (m n : ℕ) (ns ms : List ℕ) → (list_any (λ j. eqb j m) ns ≡ true → list_any (λ j. eqb j m) ms ≡ true) → list_any (λ j. eqb j m) (n ∷ ns) ≡ true → list_any (λ j. eqb j m) (n ∷ ms) ≡ true
any_cons m n ns ms h e = elim (cases_Bool (eqb n m)) [
  | inl t ↦ ap (λ b. b || list_any (λ j. eqb j m) ms) t
  | inr f ↦ any_more m n ms (h (sym (ap (λ b. b || list_any (λ j. eqb j m) ns) f) ∙ e))
]

none_of_rising : (i n : ℕ) (ns : List ℕ) → i < n → Rises n ns → list_any (λ j. eqb j i) (n ∷ ns) ≡ false
none_of_rising i n [] l r = ap (λ b. b || false) (ne_eqb n i (λ q. omega arith))
none_of_rising i n (m ∷ ms) l r = ap (λ b. b || list_any (λ j. eqb j i) (m ∷ ms)) (ne_eqb n i (λ q. omega arith)) ∙ none_of_rising i m ms (omega (arith, r.0)) r.1

pub placed_rest : (places : List OpenRowView) (window i : ℕ) (row : OpenRowView) (js : List ℕ) → IsApart window i js → ArePlaced places window js → ArePlaced (set places (i % window) row) window js
placed_rest places window i row [] a p = tt
placed_rest places window i row (j ∷ js) a p = (ap (λ (x : OpenRowView). x.instant) (row_else places window i j row a.0) ∙ p.0, placed_rest places window i row js a.1 p.1)

-- the row at a place has the places of the table
pub sized_in : (window last s k i : ℕ) (places : List OpenRowView) (is : List ℕ) → 0 < window → IsRing window last s k places is → HasPlaces s k (row_in places window i)
sized_in window last s k i places is h r = r.each (i % window) (blank_row 0 0 0) (omega (arith, mod-lt i h, r.size))

open_if : (window last s k i : ℕ) (places : List OpenRowView) (is : List ℕ) → 0 < window → last < i → IsRing window last s k places is → (row_in places window i).instant ≡ i → list_any (λ j. eqb j i) is ≡ true
open_if window last s k i places is h l r e =
    subst (λ m. list_any (λ j. eqb j m) is ≡ true) e (r.known (i % window) (blank_row 0 0 0) (omega (arith, mod-lt i h, r.size)) (omega arith))

pub met_in : (window last s k i : ℕ) (places : List OpenRowView) (is : List ℕ) → 0 < window → last < i → IsRing window last s k places is → row_at i (rows_in places window is) ≡ met_row i (row_in places window i)
met_in window last s k i places is h l r = met_is places window i is r.placed (open_if window last s k i places is h l r)

base_is : (s k i : ℕ) (row : OpenRowView) (o : Option OpenRowView) → HasPlaces s k row → o ≡ met_row i row → base_row i row ≡ unwrap_or o (blank_row s k i)
base_is s k i row o p e =
    ap (λ n. unwrap_or (met_row i row) (blank_row n (length row.columns) i)) p.taken ∙ ap (λ n. unwrap_or (met_row i row) (blank_row s n i)) p.columns
    ∙ ap (λ q. unwrap_or q (blank_row s k i)) (sym e)

base_instant : (i : ℕ) (row : OpenRowView) → (base_row i row).instant ≡ i
base_instant i row = elim (cases_eq row.instant i) [
  | inl e ↦ ap (λ b. (unwrap_or (cond b (Some row) None) (blank_row (length row.taken) (length row.columns) i)).instant) (eq-eqb row.instant i e) ∙ e
  | inr n ↦ ap (λ b. (unwrap_or (cond b (Some row) None) (blank_row (length row.taken) (length row.columns) i)).instant) (ne_eqb row.instant i n)
]

base_sized : (s k i : ℕ) (row : OpenRowView) → HasPlaces s k row → HasPlaces s k (base_row i row)
base_sized s k i row p = elim (cases_eq row.instant i) [
  | inl e ↦ subst (λ b. HasPlaces s k (unwrap_or (cond b (Some row) None) (blank_row (length row.taken) (length row.columns) i))) (sym (eq-eqb row.instant i e)) p
  | inr n ↦ subst (λ b. HasPlaces s k (unwrap_or (cond b (Some row) None) (blank_row (length row.taken) (length row.columns) i))) (sym (ne_eqb row.instant i n))
      (subst (λ m. HasPlaces m k (blank_row (length row.taken) (length row.columns) i)) p.taken (subst (λ m. HasPlaces (length row.taken) m (blank_row (length row.taken) (length row.columns) i)) p.columns (places-blank (length row.taken) (length row.columns) i)))
]

-- where nothing is taken, the row at the place is that of the instant
held_of : (i stream lane : ℕ) (cells : List (ℕ × CellView)) (row : OpenRowView) → is_taken (answer_at (met_row i row) stream lane cells) ≡ false → row.instant ≡ i
held_of i stream lane cells row e = elim (cases_eq row.instant i) [
  | inl q ↦ q
  | inr n ↦ (let t : is_taken (answer_at (met_row i row) stream lane cells) ≡ true = ap (λ b. is_taken (answer_at (cond b (Some row) None) stream lane cells)) (ne_eqb row.instant i n) in
      absurd (false≢true (sym e ∙ t)))
]

-- a put, as the code makes it
pub record IsPutInto (window last s k i stream lane : ℕ) (cells : List (ℕ × CellView)) (places : List OpenRowView) (is : List ℕ) (answer : PutOutcome) (new : List OpenRowView) (now : List ℕ) : Type 0 where
  pub ring : IsRing window last s k places is
  pub least : 0 < window
  pub above : last < i
  pub rising : Rises last is
  pub apart : AreApartBut window i is
  pub answered : answer ≡ answer_at (met_row i (row_in places window i)) stream lane cells
  pub written : new ≡ (if is_taken answer then set places (i % window) (with_frame stream lane cells (base_row i (row_in places window i))) else places)
  pub opened : now ≡ (if eqb (row_in places window i).instant i then is else place i is)

pub changed_kept : (f : OpenRowView → OpenRowView) → ((row : OpenRowView) → (f row).instant ≡ row.instant) → (c : Content) → ((row : OpenRowView) → HasPlaces (streams_of c) c.columns row → HasPlaces (streams_of c) c.columns (f row)) → (places now : List OpenRowView) (is seen : List ℕ) → seen ≡ is → now ≡ changed f c.window seen places → IsContent (record c { open_rows = rows_in places c.window is }) → IsRing c.window c.last (streams_of c) c.columns places is → IsRing c.window c.last (streams_of c) c.columns now is
changed_kept f g c q places now is seen s e h r =
    subst (λ ps. IsRing c.window c.last (streams_of c) c.columns ps is) (sym (e ∙ ap (λ js. changed f c.window js places) s))
    (ring_changed f g c.window c.last (streams_of c) c.columns q places is is (omega (arith, h.window_least)) r)

-- ---- what follows from the laws of rising numbers

module _ (R : RisingLaws) where
  pub ring_closed : (window last s k n : ℕ) (places : List OpenRowView) (is : List ℕ) → IsRing window last s k places is → IsRing window (greatest last (take n is)) s k places (drop n is)
  ring_closed window last s k n places is r = record {
    size = r.size;
    each = r.each;
    placed = placed-drop places window n is r.placed;
    known = λ j d l m.
        any_behind n (get_or places j d).instant is (R.below_higher (greatest last (take n is) + 1) (get_or places j d).instant (take n is) (omega arith) (R.below_greatest last (take n is)))
        (r.known j d l (omega (arith, R.greatest_ge last (take n is))));
    stand = λ j l m. r.stand j l (omega (arith, R.greatest_ge last (take n is)));
  }

  any_placed : (i : ℕ) (is : List ℕ) → list_any (λ j. eqb j i) (place i is) ≡ true
  any_placed i [] = any_one i i [] refl
  any_placed i (n ∷ ns) = elim (R.compared i n) [
    | Below l ↦ subst (λ ms. list_any (λ j. eqb j i) ms ≡ true) (sym (R.place_lower i n ns l)) (any_one i i (n ∷ ns) refl)
    | At e ↦ subst (λ ms. list_any (λ j. eqb j i) ms ≡ true) (sym (R.place_same i n ns e)) (any_one i n ns e)
    | Above g ↦ subst (λ ms. list_any (λ j. eqb j i) ms ≡ true) (sym (R.place_higher i n ns g)) (any_more i n (place i ns) (any_placed i ns))
  ]

  any_still : (m i : ℕ) (is : List ℕ) → list_any (λ j. eqb j m) is ≡ true → list_any (λ j. eqb j m) (place i is) ≡ true
  any_still m i [] e = absurd (false≢true e)
  any_still m i (n ∷ ns) e = elim (R.compared i n) [
    | Below l ↦ subst (λ ms. list_any (λ j. eqb j m) ms ≡ true) (sym (R.place_lower i n ns l)) (any_more m i (n ∷ ns) e)
    | At q ↦ subst (λ ms. list_any (λ j. eqb j m) ms ≡ true) (sym (R.place_same i n ns q)) e
    | Above g ↦ subst (λ ms. list_any (λ j. eqb j m) ms ≡ true) (sym (R.place_higher i n ns g)) (any_cons m n ns (place i ns) (λ h. any_still m i ns h) e)
  ]

  place_held : (low i : ℕ) (is : List ℕ) → Rises low is → list_any (λ j. eqb j i) is ≡ true → place i is ≡ is
  place_held low i [] r e = absurd (false≢true e)
  place_held low i (n ∷ ns) r e = elim (R.compared i n) [
    | Below l ↦ absurd (false≢true (sym (none_of_rising i n ns l r.1) ∙ e))
    | At q ↦ R.place_same i n ns q
    | Above g ↦ R.place_higher i n ns g ∙ ap (λ ms. n ∷ ms) (place_held n i ns r.1 (sym (ap (λ b. b || list_any (λ j. eqb j i) ns) (ne_eqb n i (λ q. omega arith))) ∙ e))
  ]

  placed_put : (places : List OpenRowView) (window i low : ℕ) (row : OpenRowView) (is : List ℕ) → 0 < window → length places ≡ window → row.instant ≡ i → Rises low is → AreApartBut window i is → ArePlaced places window is → ArePlaced (set places (i % window) row) window (place i is)
  placed_put places window i low row [] h e q r a p = (ap (λ (x : OpenRowView). x.instant) (row_here places window i row h e) ∙ q, tt)
  placed_put places window i low row (n ∷ ns) h e q r a p = elim (R.compared i n) [
    | Below l ↦ subst (λ ms. ArePlaced (set places (i % window) row) window ms) (sym (R.place_lower i n ns l))
        (ap (λ (x : OpenRowView). x.instant) (row_here places window i row h e) ∙ q, placed_rest places window i row (n ∷ ns) (apart_but window i i (n ∷ ns) (omega arith) (l, r.1) a) p)
    | At k ↦ subst (λ ms. ArePlaced (set places (i % window) row) window ms) (sym (R.place_same i n ns k)) (
      ap (λ m. (row_in (set places (i % window) row) window m).instant) k ∙ ap (λ (x : OpenRowView). x.instant) (row_here places window i row h e) ∙ q ∙ sym k,
      placed_rest places window i row ns (apart_but window i n ns (omega arith) r.1 a.1) p.1,
    )
    | Above g ↦ subst (λ ms. ArePlaced (set places (i % window) row) window ms) (sym (R.place_higher i n ns g))
        (ap (λ (x : OpenRowView). x.instant) (row_else places window i n row (a.0 (λ m. omega arith))) ∙ p.0, placed_put places window i n row ns h e q r.1 a.1 p.1)
  ]

  ring_put : (window last s k i : ℕ) (places : List OpenRowView) (is : List ℕ) (row : OpenRowView) → 0 < window → row.instant ≡ i → HasPlaces s k row → Rises last is → AreApartBut window i is → IsRing window last s k places is → IsRing window last s k (set places (i % window) row) (place i is)
  ring_put window last s k i places is row h q x rise a r = record {
    size = length-set places (i % window) row ∙ r.size;
    each = set-each (HasPlaces s k) places (i % window) row x r.each;
    placed = placed_put places window i last row is h r.size q rise a r.placed;
    known = set-each (IsKnown last (place i is)) places (i % window) row (λ m. subst (λ n. list_any (λ j. eqb j n) (place i is) ≡ true) (sym q) (any_placed i is))
        (λ j d l m. any_still (get_or places j d).instant i is (r.known j d l m));
    stand = set-stand last window places (i % window) row (λ m. ap (λ n. n % window) q) r.stand;
  }

  open_is : (window last s k i : ℕ) (places : List OpenRowView) (is : List ℕ) → 0 < window → last < i → Rises last is → IsRing window last s k places is → (if eqb (row_in places window i).instant i then is else place i is) ≡ place i is
  open_is window last s k i places is h l rise r = elim (cases_eq (row_in places window i).instant i) [
    | inl e ↦ ap (λ b. if b then is else place i is) (eq-eqb (row_in places window i).instant i e) ∙ sym (place_held last i is rise (open_if window last s k i places is h l r e))
    | inr n ↦ ap (λ b. if b then is else place i is) (ne_eqb (row_in places window i).instant i n)
  ]

  module _ (window last s k i stream lane : ℕ) (cells : List (ℕ × CellView)) (places : List OpenRowView) (is : List ℕ) (answer : PutOutcome) (new : List OpenRowView) (now : List ℕ) (h : IsPutInto window last s k i stream lane cells places is answer new now) where
    left : is_taken answer ≡ false → (new ≡ places) × (now ≡ is)
    left f =
        let e : (row_in places window i).instant ≡ i = held_of i stream lane cells (row_in places window i) (ap is_taken (sym h.answered) ∙ f) in (
          h.written ∙ ap (λ b. if b then set places (i % window) (with_frame stream lane cells (base_row i (row_in places window i))) else places) f,
          h.opened ∙ ap (λ b. if b then is else place i is) (eq-eqb (row_in places window i).instant i e),
        )

    took : is_taken answer ≡ true → (new ≡ set places (i % window) (with_frame stream lane cells (base_row i (row_in places window i)))) × (now ≡ place i is)
    took t = (
      h.written ∙ ap (λ b. if b then set places (i % window) (with_frame stream lane cells (base_row i (row_in places window i))) else places) t,
      h.opened ∙ open_is window last s k i places is h.least h.above h.rising h.ring,
    )

    pub put_kept : IsRing window last s k new now
    put_kept = elim (cases_Bool (is_taken answer)) [
      | inl t ↦ rw ((took t).0, (took t).1) (ring_put window last s k i places is (with_frame stream lane cells (base_row i (row_in places window i))) h.least (base_instant i (row_in places window i))
          (places-frame stream lane cells s k (base_row i (row_in places window i)) (base_sized s k i (row_in places window i) (sized_in window last s k i places is h.least h.ring))) h.rising h.apart h.ring)
      | inr f ↦ rw ((left f).0, (left f).1) h.ring
    ]

    pub put_rows : rows_in new window now ≡ (if is_taken answer then with_row (with_frame stream lane cells) (blank_row s k i) (rows_in places window is) else rows_in places window is)
    put_rows = elim (cases_Bool (is_taken answer)) [
      | inl t ↦ rw ((took t).0, (took t).1, t) (put_row R (with_frame stream lane cells) (blank_row s k i) (with_frame stream lane cells (base_row i (row_in places window i))) places window last is h.least h.ring.size h.rising h.ring.placed h.apart
          (ap (with_frame stream lane cells) (base_is s k i (row_in places window i) (row_at i (rows_in places window is)) (sized_in window last s k i places is h.least h.ring) (met_in window last s k i places is h.least h.above h.ring))))
      | inr f ↦ rw ((left f).0, (left f).1, f) refl
    ]
