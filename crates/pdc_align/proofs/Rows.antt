-- The rows of the open instants, where one instant takes its place among them.
use Rattle.std.proofs.Common.{◌≡◌, ◌≢◌, ℕ, ◌≤◌, Bool, true, false, ◌||◌, cond, eqb, ltb, List, [], ◌∷◌, map, refl, sym, ◌∙◌, ap, arith, Some, None}
use Rattle.std.proofs.lemmas.Bool.{eqb-false, eqb-true, ltb-true, ne_eqb}
use Rattle.pdc_arrival.specs.pdc_row.Rising.{Rises, place}
use Rattle.pdc_table.specs.Placing.{row_at, with_row}
use Rattle.pdc_table.specs.pdc_open_row.Views.{OpenRowView, blank_row}
use Rattle.pdc_arrival.specs.pdc_life.Given.{Given}
use Rattle.pdc_arrival.specs.pdc_life.Life.{Entry}
use Rattle.pdc_align.specs.State.{open_row_of}
use Rattle.pdc_align.proofs.Quiet.{is_in}

-- rising numbers above i are not i
not_in_above : (i low : ℕ) (ns : List ℕ) → i ≤ low → Rises low ns → is_in i ns ≡ false
not_in_above i low [] l r = refl
not_in_above i low (n ∷ ns) l r =
    ap (λ b. b || is_in i ns) (ne_eqb n i (λ q. omega (arith, l, r.0, q))) ∙ not_in_above i n ns (omega (arith, l, r.0)) r.1

same_above : (f h : ℕ → OpenRowView) (i low : ℕ) (ns : List ℕ) → ((j : ℕ) → j ≢ i → h j ≡ f j) → i ≤ low → Rises low ns → map h ns ≡ map f ns
same_above f h i low [] k l r = refl
same_above f h i low (n ∷ ns) k l r =
    ap (λ x. x ∷ map h ns) (k n (λ q. omega (arith, l, r.0, q))) ∙ ap (λ xs. f n ∷ xs) (same_above f h i n ns k (omega (arith, l, r.0)) r.1)

-- The row of i is put in its place: where there is one it changes, where there is none the fresh one comes in.
one_place : (g : Given) (E : List Entry) (h : ℕ → OpenRowView) (change : OpenRowView → OpenRowView) (streams columns i low y : ℕ) (ys : List ℕ) (b c : Bool)
    → ltb i y ≡ b → eqb y i ≡ c → ((j : ℕ) → j ≢ i → h j ≡ open_row_of g E j) → h i ≡ change (open_row_of g E i) → Rises low (y ∷ ys)
    → (cond c true (is_in i ys) ≡ false → open_row_of g E i ≡ blank_row streams columns i)
    → ((is_in i ys ≡ false → open_row_of g E i ≡ blank_row streams columns i) → map h (place i ys) ≡ with_row change (blank_row streams columns i) (map (open_row_of g E) ys))
    → map h (cond b (i ∷ y ∷ ys) (cond c (y ∷ ys) (y ∷ place i ys)))
    ≡ cond b (change (blank_row streams columns i) ∷ open_row_of g E y ∷ map (open_row_of g E) ys)
    (cond c (change (open_row_of g E y) ∷ map (open_row_of g E) ys) (open_row_of g E y ∷ with_row change (blank_row streams columns i) (map (open_row_of g E) ys)))
one_place g E h change streams columns i low y ys true true l e k t r n next = absurd (omega (arith, ltb-true i y l, eqb-true y i e))
one_place g E h change streams columns i low y ys true false l e k t r n next =
    let fresh : open_row_of g E i ≡ blank_row streams columns i = n (not_in_above i y ys (omega (arith, ltb-true i y l)) r.1) in
    ap (λ x. x ∷ map h (y ∷ ys)) (t ∙ ap change fresh)
    ∙ ap (λ xs. change (blank_row streams columns i) ∷ xs) (same_above (open_row_of g E) h i i (y ∷ ys) k (omega arith) (ltb-true i y l, r.1))
one_place g E h change streams columns i low y ys false true l e k t r n next =
    let same : y ≡ i = eqb-true y i e in
    ap (λ x. x ∷ map h ys) (ap h same ∙ t ∙ ap (λ j. change (open_row_of g E j)) (sym same))
    ∙ ap (λ xs. change (open_row_of g E y) ∷ xs) (same_above (open_row_of g E) h i y ys k (omega (arith, same)) r.1)
one_place g E h change streams columns i low y ys false false l e k t r n next =
    ap (λ x. x ∷ map h (place i ys)) (k y (eqb-false y i e)) ∙ ap (λ xs. open_row_of g E y ∷ xs) (next n)

or_is : (c b : Bool) → cond c true b ≡ (c || b)
or_is true b = refl
or_is false b = refl

pub rows_placed : (g : Given) (E : List Entry) (h : ℕ → OpenRowView) (change : OpenRowView → OpenRowView) (streams columns i low : ℕ) (ns : List ℕ)
    → ((j : ℕ) → j ≢ i → h j ≡ open_row_of g E j) → h i ≡ change (open_row_of g E i) → Rises low ns
    → (is_in i ns ≡ false → open_row_of g E i ≡ blank_row streams columns i)
    → map h (place i ns) ≡ with_row change (blank_row streams columns i) (map (open_row_of g E) ns)
rows_placed g E h change streams columns i low [] k t r n = ap (λ x. x ∷ []) (t ∙ ap change (n refl))
rows_placed g E h change streams columns i low (y ∷ ys) k t r n =
    one_place g E h change streams columns i low y ys (ltb i y) (eqb y i) refl refl k t r (λ q. n (sym (or_is (eqb y i) (is_in i ys)) ∙ q))
    (rows_placed g E h change streams columns i y ys k t r.1)

-- The row at an instant among those of the open ones.
one_row_at : (g : Given) (E : List Entry) (i n : ℕ) (ns : List ℕ) (b : Bool) → eqb n i ≡ b
    → row_at i (map (open_row_of g E) ns) ≡ cond (is_in i ns) (Some (open_row_of g E i)) None
    → cond b (Some (open_row_of g E n)) (row_at i (map (open_row_of g E) ns)) ≡ cond (b || is_in i ns) (Some (open_row_of g E i)) None
one_row_at g E i n ns true e h = ap (λ j. Some (open_row_of g E j)) (eqb-true n i e)
one_row_at g E i n ns false e h = h

pub row_at_open : (g : Given) (E : List Entry) (i : ℕ) (ns : List ℕ) → row_at i (map (open_row_of g E) ns) ≡ cond (is_in i ns) (Some (open_row_of g E i)) None
row_at_open g E i [] = refl
row_at_open g E i (n ∷ ns) = one_row_at g E i n ns (eqb n i) refl (row_at_open g E i ns)
