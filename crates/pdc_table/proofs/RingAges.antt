-- Rows with the ages that are kept beside them.
use Rattle.std.proofs.Common.{◌≡◌, ℕ, ◌%◌, ◌<◌, Bool, true, false, if◌then◌else◌, eqb, List, [], ◌∷◌, length, get_or, set, map, refl, sym, ◌∙◌, ap, subst, arith, Option, Some, None, zero, suc}
use Rattle.std.proofs.Math.Nat.{mod-lt}
use Rattle.std.specs.List.{All}
use Rattle.std.specs.Option.{option_map, unwrap_or}
use Rattle.std.proofs.lemmas.Bool.{eq-eqb, false≢true}
use Rattle.std.proofs.lemmas.List.{length-map, length-set}
use Rattle.pdc_open_row.specs.pdc_row.CellView.{CellView}
use Rattle.pdc_table.specs.Closing.{aged}
use Rattle.pdc_open_row.specs.pdc_columns.Layout.{LayoutView}
use Rattle.pdc_table.specs.RingRows.{StandAbove, base_row, changed, closed_rows, met_row, older, row_in, rows_in, with_ages}
use Rattle.pdc_open_row.specs.Views.{OpenRowView, at_age, blank_row}
use Rattle.pdc_table.specs.Steps.{disagreements_in}
use Rattle.pdc_open_row.specs.Taking.{answer_at, is_taken, with_frame}
use Rattle.pdc_open_row.specs.pdc_columns.Twin.{IsTwin, lowest}
use Rattle.pdc_open_row.specs.Twin.{IsTwinIn}
use Rattle.pdc_table.specs.Content.{HasPlaces}
use Rattle.pdc_open_row.specs.declared.outcome.PutOutcome.{PutOutcome}
use Rattle.pdc_table.specs.Placing.{row_at}
use Rattle.pdc_table.proofs.RingKept.{IsKnown, IsRing, met_in, ring_changed}
use Rattle.pdc_table.proofs.RingRows.{ArePlaced}

pub aged_length : (rows : List OpenRowView) (ages : List ℕ) (n : ℕ) → length rows ≡ n → length ages ≡ n → length (with_ages rows ages) ≡ n
aged_length [] ages n e k = e
aged_length (row ∷ rows) [] n e k = k
aged_length (row ∷ rows) (age ∷ ages) n e k =
    let rest : length (with_ages rows ages) ≡ length rows = aged_length rows ages (length rows) refl (omega arith) in
    omega arith

aged_at : (rows : List OpenRowView) (ages : List ℕ) (k : ℕ) (d : OpenRowView) → k < length rows → length ages ≡ length rows → get_or (with_ages rows ages) k d ≡ at_age (get_or ages k 0) (get_or rows k d)
aged_at [] ages k d h e = absurd (omega arith)
aged_at (row ∷ rows) [] k d h e = absurd (omega arith)
aged_at (row ∷ rows) (age ∷ ages) zero d h e = refl
aged_at (row ∷ rows) (age ∷ ages) (suc k) d h e = aged_at rows ages k d (omega arith) (omega arith)

-- the row at a place has the age there
pub aged_row : (places : List OpenRowView) (ages : List ℕ) (window i : ℕ) → 0 < window → length places ≡ window → length ages ≡ window → row_in (with_ages places ages) window i ≡ at_age (get_or ages (i % window) 0) (row_in places window i)
aged_row places ages window i h e k = aged_at places ages (i % window) (blank_row 0 0 0) (omega (arith, mod-lt i h)) (omega arith)

-- what is known of the bytes of a frame is so of a row, whatever its age
aged_by : (here : Bool) (twin : Option (List ℕ)) (age : ℕ) (row : OpenRowView) → IsTwinIn twin (if here then Some (at_age age row) else None) → IsTwinIn twin (if here then Some row else None)
aged_by here None age row t = tt
aged_by true (Some bytes) age row t = t
aged_by false (Some bytes) age row t = tt

pub aged_twin : (twin : Option (List ℕ)) (places : List OpenRowView) (ages : List ℕ) (window i : ℕ) → 0 < window → length places ≡ window → length ages ≡ window
    → IsTwinIn twin (met_row i (row_in (with_ages places ages) window i)) → IsTwinIn twin (met_row i (row_in places window i))
aged_twin twin places ages window i h e k t =
    let row : OpenRowView = row_in places window i in
    aged_by (eqb row.instant i) twin (get_or ages (i % window) 0) row (subst (λ (x : OpenRowView). IsTwinIn twin (met_row i x)) (aged_row places ages window i h e k) t)

-- in the row that a frame is put into it is so
pub twin_met : (twin : Option (List ℕ)) (i : ℕ) (row : OpenRowView) → row.instant ≡ i → IsTwinIn twin (met_row i row) → IsTwin twin row.columns
twin_met None i row e t = tt
twin_met (Some bytes) i row e t = subst (λ (here : Bool). IsTwinIn (Some bytes) (if here then Some row else None)) (eq-eqb row.instant i e) t

pub aged_placed : (places : List OpenRowView) (ages : List ℕ) (window : ℕ) (is : List ℕ) → 0 < window → length places ≡ window → length ages ≡ window → ArePlaced places window is → ArePlaced (with_ages places ages) window is
aged_placed places ages window [] h e k p = tt
aged_placed places ages window (i ∷ is) h e k p = (ap (λ (row : OpenRowView). row.instant) (aged_row places ages window i h e k) ∙ p.0, aged_placed places ages window is h e k p.1)

-- what closes does not tell its age

pub aged_closed : (places : List OpenRowView) (ages : List ℕ) (layouts : List LayoutView) (window : ℕ) (cs : List ℕ) → 0 < window → length places ≡ window → length ages ≡ window → closed_rows (with_ages places ages) layouts window cs ≡ closed_rows places layouts window cs
aged_closed places ages layouts window [] h e k = refl
aged_closed places ages layouts window (c ∷ cs) h e k = rw (aged_row places ages window c h e k, aged_closed places ages layouts window cs h e k) refl

pub aged_disagreements : (places : List OpenRowView) (ages : List ℕ) (layout : LayoutView) (window : ℕ) (is : List ℕ) → 0 < window → length places ≡ window → length ages ≡ window → disagreements_in layout (rows_in (with_ages places ages) window is) ≡ disagreements_in layout (rows_in places window is)
aged_disagreements places ages layout window [] h e k = refl
aged_disagreements places ages layout window (i ∷ is) h e k = rw (aged_row places ages window i h e k, aged_disagreements places ages layout window is h e k) refl

-- one more tick at each place

pub older_rows : (places : List OpenRowView) (ages : List ℕ) → with_ages places (map older ages) ≡ map aged (with_ages places ages)
older_rows [] ages = refl
older_rows (row ∷ rows) [] = refl
older_rows (row ∷ rows) (age ∷ ages) = rw (older_rows rows ages) refl

pub older_length : (ages now : List ℕ) (window : ℕ) → now ≡ map older ages → length ages ≡ window → length now ≡ window
older_length ages now window e k = ap length e ∙ length-map ages older ∙ k

map_at : (f : OpenRowView → OpenRowView) (rows : List OpenRowView) (k : ℕ) (d e : OpenRowView) → k < length rows → get_or (map f rows) k d ≡ f (get_or rows k e)
map_at f [] k d e h = absurd (omega arith)
map_at f (row ∷ rows) zero d e h = refl
map_at f (row ∷ rows) (suc k) d e h = map_at f rows k d e (omega arith)

mapped_row : (f : OpenRowView → OpenRowView) (places : List OpenRowView) (window i : ℕ) → 0 < window → length places ≡ window → row_in (map f places) window i ≡ f (row_in places window i)
mapped_row f places window i h e = map_at f places (i % window) (blank_row 0 0 0) (blank_row 0 0 0) (omega (arith, mod-lt i h))

pub mapped_rows : (f : OpenRowView → OpenRowView) (places : List OpenRowView) (window : ℕ) (is : List ℕ) → 0 < window → length places ≡ window → rows_in (map f places) window is ≡ map f (rows_in places window is)
mapped_rows f places window [] h e = refl
mapped_rows f places window (i ∷ is) h e = rw (mapped_row f places window i h e, mapped_rows f places window is h e) refl

-- a write at a place

set_keeps : (places : List OpenRowView) (ages : List ℕ) (k : ℕ) (row : OpenRowView) → length ages ≡ length places → with_ages (set places k row) ages ≡ set (with_ages places ages) k (at_age (get_or ages k 0) row)
set_keeps [] ages k row e = refl
set_keeps (r ∷ rs) [] k row e = absurd (omega arith)
set_keeps (r ∷ rs) (age ∷ ages) zero row e = refl
set_keeps (r ∷ rs) (age ∷ ages) (suc k) row e = ap (λ xs. at_age age r ∷ xs) (set_keeps rs ages k row (omega arith))

set_both : (places : List OpenRowView) (ages : List ℕ) (k a : ℕ) (row : OpenRowView) → length ages ≡ length places → with_ages (set places k row) (set ages k a) ≡ set (with_ages places ages) k (at_age a row)
set_both [] ages k a row e = refl
set_both (r ∷ rs) [] k a row e = absurd (omega arith)
set_both (r ∷ rs) (age ∷ ages) zero a row e = refl
set_both (r ∷ rs) (age ∷ ages) (suc k) a row e = ap (λ xs. at_age age r ∷ xs) (set_both rs ages k a row (omega arith))

-- a change that leaves ages
pub aged_changed : (f : OpenRowView → OpenRowView) → ((age : ℕ) (row : OpenRowView) → at_age age (f row) ≡ f (at_age age row)) → (window : ℕ) (is : List ℕ) (places : List OpenRowView) (ages : List ℕ) → 0 < window → length places ≡ window → length ages ≡ window → with_ages (changed f window is places) ages ≡ changed f window is (with_ages places ages)
aged_changed f g window [] places ages h e k = refl
aged_changed f g window (i ∷ is) places ages h e k =
    aged_changed f g window is (set places (i % window) (f (row_in places window i))) ages h (length-set places (i % window) (f (row_in places window i)) ∙ e) k
    ∙ ap (changed f window is) (set_keeps places ages (i % window) (f (row_in places window i)) (omega arith)
    ∙ ap (set (with_ages places ages) (i % window)) (g (get_or ages (i % window) 0) (row_in places window i) ∙ ap f (sym (aged_row places ages window i h e k))))

-- a put, as the code makes it

answer_if : (b : Bool) (a : ℕ) (row : OpenRowView) (stream lane : ℕ) (cells : List (ℕ × CellView)) → answer_at (if b then Some (at_age a row) else None) stream lane cells ≡ answer_at (if b then Some row else None) stream lane cells
answer_if true a row stream lane cells = refl
answer_if false a row stream lane cells = refl

pub aged_answer : (places : List OpenRowView) (ages : List ℕ) (window i stream lane : ℕ) (cells : List (ℕ × CellView)) → 0 < window → length places ≡ window → length ages ≡ window → answer_at (met_row i (row_in places window i)) stream lane cells ≡ answer_at (met_row i (row_in (with_ages places ages) window i)) stream lane cells
aged_answer places ages window i stream lane cells h e k =
    sym (ap (λ r. answer_at (met_row i r) stream lane cells) (aged_row places ages window i h e k)
    ∙ answer_if (eqb (row_in places window i).instant i) (get_or ages (i % window) 0) (row_in places window i) stream lane cells)

put_if : (b t : Bool) (a k i stream lane : ℕ) (cells : List (ℕ × CellView)) (places : List OpenRowView) (ages : List ℕ) (row : OpenRowView) → length ages ≡ length places → a ≡ get_or ages k 0 → t ≡ is_taken (answer_at (if b then Some row else None) stream lane cells)
    → with_ages (if t then set places k (with_frame stream lane cells (unwrap_or (if b then Some row else None) (blank_row (length row.taken) (length row.columns) i))) else places) (if b then ages else set ages k 0)
    ≡ (if t then set (with_ages places ages) k (with_frame stream lane cells (unwrap_or (if b then Some (at_age a row) else None) (blank_row (length row.taken) (length row.columns) i))) else with_ages places ages)
put_if true true a k i stream lane cells places ages row e q u = set_keeps places ages k (with_frame stream lane cells row) e ∙ ap (λ n. set (with_ages places ages) k (at_age n (with_frame stream lane cells row))) (sym q)
put_if true false a k i stream lane cells places ages row e q u = refl
put_if false true a k i stream lane cells places ages row e q u = set_both places ages k 0 (with_frame stream lane cells (blank_row (length row.taken) (length row.columns) i)) e
put_if false false a k i stream lane cells places ages row e q u = absurd (false≢true u)

pub ages_kept : (b : Bool) (ages : List ℕ) (k : ℕ) → length (if b then ages else set ages k 0) ≡ length ages
ages_kept true ages k = refl
ages_kept false ages k = length-set ages k 0

put_now : (t : Bool) (a k i stream lane : ℕ) (cells : List (ℕ × CellView)) (places : List OpenRowView) (ages : List ℕ) (row with_age : OpenRowView) → with_age ≡ at_age a row → length ages ≡ length places → a ≡ get_or ages k 0 → t ≡ is_taken (answer_at (met_row i row) stream lane cells)
    → with_ages (if t then set places k (with_frame stream lane cells (base_row i row)) else places) (if eqb row.instant i then ages else set ages k 0)
    ≡ (if t then set (with_ages places ages) k (with_frame stream lane cells (base_row i with_age)) else with_ages places ages)
put_now t a k i stream lane cells places ages row with_age v e q u = rw v (put_if (eqb row.instant i) t a k i stream lane cells places ages row e q u)

-- the rows after a put
pub aged_put : (window i stream lane : ℕ) (cells : List (ℕ × CellView)) (places new : List OpenRowView) (ages now : List ℕ) (answer : PutOutcome) → 0 < window → length places ≡ window → length ages ≡ window → answer ≡ answer_at (met_row i (row_in places window i)) stream lane cells
    → new ≡ (if is_taken answer then set places (i % window) (with_frame stream lane cells (base_row i (row_in places window i))) else places)
    → now ≡ (if eqb (row_in places window i).instant i then ages else set ages (i % window) 0)
    → with_ages new now ≡ (if is_taken answer then set (with_ages places ages) (i % window) (with_frame stream lane cells (base_row i (row_in (with_ages places ages) window i))) else with_ages places ages)
aged_put window i stream lane cells places new ages now answer h e k u v w =
    ap (λ ps. with_ages ps now) v ∙ ap (with_ages (if is_taken answer then set places (i % window) (with_frame stream lane cells (base_row i (row_in places window i))) else places)) w
    ∙ put_now (is_taken answer) (get_or ages (i % window) 0) (i % window) i stream lane cells places ages (row_in places window i) (row_in (with_ages places ages) window i)
    (aged_row places ages window i h e k) (omega arith) refl (ap is_taken u)

-- what holds of the rows holds of them with their ages

aged_each : (Q : OpenRowView → Type 0) → ((age : ℕ) (row : OpenRowView) → Q row → Q (at_age age row)) → (places : List OpenRowView) (ages : List ℕ) → length ages ≡ length places → All Q places → All Q (with_ages places ages)
aged_each Q q places ages e a n d l =
    let len : length (with_ages places ages) ≡ length places = aged_length places ages (length places) refl e in
    subst Q (sym (aged_at places ages n d (omega arith) e)) (q (get_or ages n 0) (get_or places n d) (a n d (omega arith)))

aged_stand : (last window : ℕ) (places : List OpenRowView) (ages : List ℕ) → length ages ≡ length places → StandAbove last window places → StandAbove last window (with_ages places ages)
aged_stand last window places ages e a n l =
    let len : length (with_ages places ages) ≡ length places = aged_length places ages (length places) refl e in
    subst (λ (row : OpenRowView). last < row.instant → row.instant % window ≡ n) (sym (aged_at places ages n (blank_row 0 0 0) (omega arith) e)) (a n (omega arith))

pub aged_ring : (window last s k : ℕ) (places : List OpenRowView) (ages : List ℕ) (is : List ℕ) → 0 < window → length ages ≡ window → IsRing window last s k places is → IsRing window last s k (with_ages places ages) is
aged_ring window last s k places ages is h e r = record {
  size = aged_length places ages window r.size e;
  each = aged_each (HasPlaces s k) (λ a row p. record { taken = p.taken; columns = p.columns }) places ages (e ∙ sym r.size) r.each;
  placed = aged_placed places ages window is h r.size e r.placed;
  known = aged_each (IsKnown last is) (λ a row p. p) places ages (e ∙ sym r.size) r.known;
  stand = aged_stand last window places ages (e ∙ sym r.size) r.stand;
}

-- the row of an open instant is that at its place, and so are the blocks of lane 0
pub lowest_at : (window last s k i : ℕ) (places : List OpenRowView) (ages : List ℕ) (is : List ℕ) → 0 < window → length ages ≡ window → last < i → IsRing window last s k places is → (row_in places window i).instant ≡ i
    → option_map (λ (row : OpenRowView). lowest row.columns) (row_at i (rows_in (with_ages places ages) window is)) ≡ Some (lowest (row_in places window i).columns)
lowest_at window last s k i places ages is h a l r e =
    let row : OpenRowView = row_in places window i in
    ap (option_map (λ (x : OpenRowView). lowest x.columns))
    (met_in window last s k i (with_ages places ages) is h l (aged_ring window last s k places ages is h a r)
    ∙ ap (met_row i) (aged_row places ages window i h r.size a)
    ∙ ap (λ here. if here then Some (at_age (get_or ages (i % window) 0) row) else None) (eq-eqb row.instant i e))

pub kept_by : (f : OpenRowView → OpenRowView) → ((row : OpenRowView) → (f row).instant ≡ row.instant) → (window last s k : ℕ) → ((row : OpenRowView) → HasPlaces s k row → HasPlaces s k (f row)) → (places now : List OpenRowView) (is seen : List ℕ) → 0 < window → seen ≡ is → now ≡ changed f window seen places → IsRing window last s k places is → IsRing window last s k now is
kept_by f g window last s k q places now is seen h v e r =
    subst (λ ps. IsRing window last s k ps is) (sym (e ∙ ap (λ js. changed f window js places) v)) (ring_changed f g window last s k q places is is h r)
