-- The row of an instant, after each kind of change to the rows.
use Rattle.std.proofs.Common.{◌≡◌, ◌≢◌, ℕ, ◌+◌, ◌<◌, ◌≤◌, Bool, true, false, cond, eqb, ltb, List, [], ◌∷◌, ◌++◌, map, refl, sym, ◌∙◌, ap, arith, rules, inl, inr, Option, Some, None, option_map}
use Rattle.std.specs.Option.{unwrap_or}
use Rattle.std.proofs.lemmas.Bool.{cases_eq, eq-eqb, ne_eqb}
use Rattle.pdc_open_row.specs.pdc_row.Quality.{greatest}
use Rattle.pdc_open_row.specs.pdc_row.Rising.{Rises, AreBelow}
use Rattle.pdc_open_row.specs.pdc_row.RisingLaws.{RisingLaws, Below, At, Above}
use Rattle.pdc_table.specs.Closing.{aged}
use Rattle.pdc_table.specs.Content.{Content}
use Rattle.pdc_table.specs.OpenInstants.{instants_of}
use Rattle.pdc_table.specs.Placing.{row_at, with_row}
use Rattle.pdc_table.specs.Steps.{closing_of, staying_of}
use Rattle.pdc_open_row.specs.Views.{OpenRowView}
use Rattle.pdc_open_row.specs.declared.wait_rule.WaitRule.{WaitRule}
use Rattle.pdc_table.proofs.Keeps.{aged_rise, front_back}

map_chosen : (b : Bool) (f : OpenRowView → OpenRowView) (x : OpenRowView) (o : Option OpenRowView) → cond b (Some (f x)) (option_map f o) ≡ option_map f (cond b (Some x) o)
map_chosen true f x o = refl
map_chosen false f x o = refl

pub row_at-map : (f : OpenRowView → OpenRowView) → ((r : OpenRowView) → (f r).instant ≡ r.instant) → (i : ℕ) (rows : List OpenRowView) → row_at i (map f rows) ≡ option_map f (row_at i rows)
row_at-map f h i [] = refl
row_at-map f h i (x ∷ xs) =
    ap (λ n. cond (eqb n i) (Some (f x)) (row_at i (map f xs))) (h x) ∙ ap (λ o. cond (eqb x.instant i) (Some (f x)) o) (row_at-map f h i xs)
    ∙ map_chosen (eqb x.instant i) f x (row_at i xs)

-- a row first in the list, of the instant or of another
pub here : (i : ℕ) (r : OpenRowView) (rest : List OpenRowView) → r.instant ≡ i → row_at i (r ∷ rest) ≡ Some r
here i r rest e = ap (λ b. cond b (Some r) (row_at i rest)) (eq-eqb r.instant i e)

pub beyond : (i : ℕ) (r : OpenRowView) (rest : List OpenRowView) → r.instant ≢ i → row_at i (r ∷ rest) ≡ row_at i rest
beyond i r rest n = ap (λ b. cond b (Some r) (row_at i rest)) (ne_eqb r.instant i n)

-- no row of rising ones above the instant is its row
pub row_above : (i low : ℕ) (rows : List OpenRowView) → i ≤ low → Rises low (instants_of rows) → row_at i rows ≡ None
row_above i low [] h r = refl
row_above i low (x ∷ xs) h r =
    rw (ne_eqb x.instant i (λ e. omega (arith, r.0))) (row_above i x.instant xs (omega (arith, r.0)) r.1)

pub row_below : (i top : ℕ) (rows : List OpenRowView) → top ≤ i → AreBelow top (instants_of rows) → row_at i rows ≡ None
row_below i top [] h b = refl
row_below i top (x ∷ xs) h b = rw (ne_eqb x.instant i (λ e. omega (arith, b.0))) (row_below i top xs h b.1)

row_behind : (i : ℕ) (xs ys : List OpenRowView) → row_at i xs ≡ None → row_at i (xs ++ ys) ≡ row_at i ys
row_behind i [] ys e = refl
row_behind i (x ∷ xs) ys e = elim (cases_eq x.instant i) [
  | inl k ↦ (let g : Some x ≡ None = rw (eq-eqb x.instant i k) at e in cc)
  | inr k ↦ (let g : row_at i xs ≡ None = rw (ne_eqb x.instant i k) at e in rw (ne_eqb x.instant i k) (row_behind i xs ys g))
]

-- the row of an instant that has one has this instant
pub row_instant : (i : ℕ) (rows : List OpenRowView) (row : OpenRowView) → row_at i rows ≡ Some row → row.instant ≡ i
row_instant i [] row e = cc
row_instant i (x ∷ xs) row e = elim (cases_eq x.instant i) [
  | inl k ↦ (let g : Some x ≡ Some row = rw (eq-eqb x.instant i k) at e in let s : x ≡ row = cc in rw (← s) k)
  | inr k ↦ (let g : row_at i xs ≡ Some row = rw (ne_eqb x.instant i k) at e in row_instant i xs row g)
]

-- ---- what follows from the laws of rising numbers

module _ (R : RisingLaws) where
  pub row_of_fresh : (change : OpenRowView → OpenRowView) (fresh : OpenRowView) → ((r : OpenRowView) → (change r).instant ≡ r.instant) → (low : ℕ) (rows : List OpenRowView) → Rises low (instants_of rows) → row_at fresh.instant (with_row change fresh rows) ≡ Some (change (unwrap_or (row_at fresh.instant rows) fresh))
  row_of_fresh change fresh h low [] r = here fresh.instant (change fresh) [] (h fresh)
  row_of_fresh change fresh h low (x ∷ xs) r = elim (R.compared fresh.instant x.instant) [
    | Below l ↦ (let e : ltb fresh.instant x.instant ≡ true = search rules in
        let none : row_at fresh.instant (x ∷ xs) ≡ None = row_above fresh.instant fresh.instant (x ∷ xs) (omega arith) (l, r.1) in
        rw e (here fresh.instant (change fresh) (x ∷ xs) (h fresh) ∙ ap (λ o. Some (change (unwrap_or o fresh))) (sym none)))
    | At k ↦ (let e : ltb fresh.instant x.instant ≡ false = search rules in let f : eqb x.instant fresh.instant ≡ true = search rules in
        rw (e, f) (here fresh.instant (change x) xs (h x ∙ k)))
    | Above g ↦ (let e : ltb fresh.instant x.instant ≡ false = search rules in let f : eqb x.instant fresh.instant ≡ false = search rules in
        rw (e, f) (beyond fresh.instant x (with_row change fresh xs) (λ q. omega arith) ∙ row_of_fresh change fresh h x.instant xs r.1))
  ]

  pub row_of_other : (change : OpenRowView → OpenRowView) (fresh : OpenRowView) → ((r : OpenRowView) → (change r).instant ≡ r.instant) → (i : ℕ) (rows : List OpenRowView) → fresh.instant ≢ i → row_at i (with_row change fresh rows) ≡ row_at i rows
  row_of_other change fresh h i [] n = beyond i (change fresh) [] (λ e. n (sym (h fresh) ∙ e))
  row_of_other change fresh h i (x ∷ xs) n = elim (R.compared fresh.instant x.instant) [
    | Below l ↦ (let e : ltb fresh.instant x.instant ≡ true = search rules in rw e (beyond i (change fresh) (x ∷ xs) (λ q. n (sym (h fresh) ∙ q))))
    | At k ↦ (let e : ltb fresh.instant x.instant ≡ false = search rules in let f : eqb x.instant fresh.instant ≡ true = search rules in
        let m : x.instant ≢ i = λ q. n (sym k ∙ q) in
        rw (e, f) (beyond i (change x) xs (λ q. m (sym (h x) ∙ q)) ∙ sym (beyond i x xs m)))
    | Above g ↦ (let e : ltb fresh.instant x.instant ≡ false = search rules in let f : eqb x.instant fresh.instant ≡ false = search rules in
        rw (e, f) (ap (λ o. cond (eqb x.instant i) (Some x) o) (row_of_other change fresh h i xs n)))
  ]

  -- above what closes at a tick, each row is that before it, a tick older
  pub row_of_tick : (c : Content) (rule : WaitRule) (i : ℕ) → Rises c.last (instants_of c.open_rows) → greatest c.last (instants_of (closing_of c rule)) < i → row_at i (staying_of c rule) ≡ option_map aged (row_at i c.open_rows)
  row_of_tick c rule i a h =
      sym (row_behind i (closing_of c rule) (staying_of c rule) (row_below i (greatest c.last (instants_of (closing_of c rule)) + 1) (closing_of c rule) (omega arith) (R.below_greatest c.last (instants_of (closing_of c rule)))))
      ∙ ap (row_at i) (front_back c.required rule c.last (map aged c.open_rows) (aged_rise c a))
      ∙ row_at-map aged (λ r. refl) i c.open_rows
