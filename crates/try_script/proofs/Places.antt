-- The place of an instant among rising rows.
use Rattle.std.proofs.Common.{◌≡◌, ℕ, ◌+◌, ◌<◌, ◌≤◌, Bool, true, false, List, [], ◌∷◌, length, get_or, refl, sym, ◌∙◌, ap, arith, zero, suc, ltb, eqb, set, insert, ◌≢◌, rules, Some, None, cond, if◌then◌else◌, inl, inr}
use Rattle.std.specs.List.Sorted.{IsNonDecreasingBy, IsPartitionPoint}
use Rattle.std.proofs.lemmas.List.{set-get_or, get_or_default}
use Rattle.std.proofs.lemmas.List.Sums.{prefix_len_is}
use Rattle.std.proofs.lemmas.Bool.{cases_lt}
use Rattle.pdc_row.specs.Rising.{Rises}
use Rattle.pdc_table.specs.OpenInstants.{instants_of}
use Rattle.pdc_table.specs.Placing.{place_of, row_at, with_row, IsGap, IsRowPlace}
use Rattle.pdc_table.specs.pdc_open_row.Views.{OpenRowView}

rises_instant : (low : ℕ) (rows : List OpenRowView) (k : ℕ) (d : OpenRowView) → Rises low (instants_of rows) → k < length rows → low < (get_or rows k d).instant
rises_instant low [] k d r h = omega arith
rises_instant low (n ∷ ns) zero d r h = r.0
rises_instant low (n ∷ ns) (suc k) d r h = let s : n.instant < (get_or ns k d).instant = rises_instant n.instant ns k d r.1 (omega arith) in omega (arith, r.0)

pub rows_do_not_fall : (low : ℕ) (rows : List OpenRowView) → Rises low (instants_of rows) → IsNonDecreasingBy (λ (r : OpenRowView). r.instant) rows
rows_do_not_fall low [] r i j d h k = omega arith
rows_do_not_fall low (n ∷ ns) r zero zero d h k = omega arith
rows_do_not_fall low (n ∷ ns) r (suc i) zero d h k = omega arith
rows_do_not_fall low (n ∷ ns) r zero (suc j) d h k = let s : n.instant < (get_or ns j d).instant = rises_instant n.instant ns j d r.1 (omega arith) in omega arith
rows_do_not_fall low (n ∷ ns) r (suc i) (suc j) d h k = rows_do_not_fall n.instant ns r.1 i j d (omega arith) (omega arith)

pub point_is_place : (rows : List OpenRowView) (instant k : ℕ) → IsPartitionPoint (λ (r : OpenRowView). ltb r.instant instant ≡ true) (λ (r : OpenRowView). ltb r.instant instant ≡ false) rows k → k ≤ length rows → (d : OpenRowView) → k ≡ place_of instant rows
point_is_place rows instant k p h d = sym (prefix_len_is (λ (r : OpenRowView). ltb r.instant instant) rows k d h (λ j l. p.0 j d (omega arith) l) (λ l. p.1 k d (omega arith) l))

nat_eq_no : (m n : ℕ) → m ≢ n → eqb m n ≡ false
nat_eq_no m n h = search rules

nat_eq_yes : (m n : ℕ) → m ≡ n → eqb m n ≡ true
nat_eq_yes m n h = search rules

ltb_yes : (m n : ℕ) → m < n → ltb m n ≡ true
ltb_yes m n h = search rules

ltb_no : (m n : ℕ) → n ≤ m → ltb m n ≡ false
ltb_no m n h = search rules

-- no row of rising ones above the instant is its row
none_above : (instant low : ℕ) (rows : List OpenRowView) → instant ≤ low → Rises low (instants_of rows) → row_at instant rows ≡ None
none_above instant low [] h r = refl
none_above instant low (x ∷ xs) h r =
    rw (nat_eq_no x.instant instant (omega (arith, r.0))) (none_above instant x.instant xs (omega (arith, r.0)) r.1)

passed : (instant p : ℕ) (x : OpenRowView) (xs : List OpenRowView) → place_of instant (x ∷ xs) ≡ suc p → (x.instant < instant) × (place_of instant xs ≡ p)
passed instant p x xs e = elim (cases_lt x.instant instant) [
  | inl h ↦ (let k : suc p ≡ 1 + place_of instant xs = sym e ∙ ap (λ b. cond b (1 + place_of instant xs) 0) (ltb_yes x.instant instant h) in (h, omega arith))
  | inr h ↦ (let k : suc p ≡ 0 = sym e ∙ ap (λ b. cond b (1 + place_of instant xs) 0) (ltb_no x.instant instant h) in absurd (omega arith))
]

stopped : (instant : ℕ) (x : OpenRowView) (xs : List OpenRowView) → place_of instant (x ∷ xs) ≡ 0 → instant ≤ x.instant
stopped instant x xs e = elim (cases_lt x.instant instant) [
  | inl h ↦ (let k : 0 ≡ 1 + place_of instant xs = sym e ∙ ap (λ b. cond b (1 + place_of instant xs) 0) (ltb_yes x.instant instant h) in absurd (omega arith))
  | inr h ↦ h
]

-- the row at the place is that of the instant
pub record IsFound (change : OpenRowView → OpenRowView) (fresh d : OpenRowView) (rows : List OpenRowView) (p : ℕ) : Type 0 where
  pub here : row_at fresh.instant rows ≡ Some (get_or rows p d)
  pub changed : with_row change fresh rows ≡ set rows p (change (get_or rows p d))

-- the instant has no row, and its place is there
pub record IsMissing (change : OpenRowView → OpenRowView) (fresh : OpenRowView) (rows : List OpenRowView) (p : ℕ) : Type 0 where
  pub none : row_at fresh.instant rows ≡ None
  pub changed : with_row change fresh rows ≡ insert rows p (change fresh)

pub found : (change : OpenRowView → OpenRowView) (fresh d : OpenRowView) (low : ℕ) (rows : List OpenRowView) (p : ℕ) → Rises low (instants_of rows) → place_of fresh.instant rows ≡ p → p < length rows → (get_or rows p d).instant ≡ fresh.instant → IsFound change fresh d rows p
found change fresh d low [] p r e h g = absurd (omega arith)
found change fresh d low (x ∷ xs) zero r e h g = record {
  here = rw (nat_eq_yes x.instant fresh.instant g) refl;
  changed = rw (ltb_no fresh.instant x.instant (omega arith), nat_eq_yes x.instant fresh.instant g) refl;
}
found change fresh d low (x ∷ xs) (suc p) r e h g =
    let q : (x.instant < fresh.instant) × (place_of fresh.instant xs ≡ p) = passed fresh.instant p x xs e in
    let f : IsFound change fresh d xs p = found change fresh d x.instant xs p r.1 q.1 (omega arith) g in
    record {
      here = rw (nat_eq_no x.instant fresh.instant (λ k. omega (arith, q.0))) f.here;
      changed = rw (ltb_no fresh.instant x.instant (omega (arith, q.0)), nat_eq_no x.instant fresh.instant (λ k. omega (arith, q.0))) (ap (λ ys. x ∷ ys) f.changed);
    }

pub missing : (change : OpenRowView → OpenRowView) (fresh d : OpenRowView) (low : ℕ) (rows : List OpenRowView) (p : ℕ) → Rises low (instants_of rows) → place_of fresh.instant rows ≡ p → (p < length rows → (get_or rows p d).instant ≢ fresh.instant) → IsMissing change fresh rows p
missing change fresh d low [] zero r e h = record { none = refl; changed = refl }
missing change fresh d low [] (suc p) r e h = absurd (omega arith)
missing change fresh d low (x ∷ xs) zero r e h =
    let m : x.instant ≢ fresh.instant = h (omega arith) in
    let l : fresh.instant ≤ x.instant = stopped fresh.instant x xs e in
    record {
      none = rw (nat_eq_no x.instant fresh.instant m) (none_above fresh.instant x.instant xs l r.1);
      changed = rw (ltb_yes fresh.instant x.instant (omega arith)) refl;
    }
missing change fresh d low (x ∷ xs) (suc p) r e h =
    let q : (x.instant < fresh.instant) × (place_of fresh.instant xs ≡ p) = passed fresh.instant p x xs e in
    let f : IsMissing change fresh xs p = missing change fresh d x.instant xs p r.1 q.1 (λ k. h (omega arith)) in
    record {
      none = rw (nat_eq_no x.instant fresh.instant (λ k. omega (arith, q.0))) f.none;
      changed = rw (ltb_no fresh.instant x.instant (omega (arith, q.0)), nat_eq_no x.instant fresh.instant (λ k. omega (arith, q.0))) (ap (λ ys. x ∷ ys) f.changed);
    }

pub row_place : (fresh : OpenRowView) (rows : List OpenRowView) (p : ℕ) (d : OpenRowView) → Rises 0 (instants_of rows) → place_of fresh.instant rows ≡ p → p < length rows → (get_or rows p d).instant ≡ fresh.instant → IsRowPlace fresh rows p
row_place fresh rows p d r e h i =
    let g : (get_or rows p fresh).instant ≡ fresh.instant = rw (get_or_default rows p fresh d h) i in
    record {
      within = h;
      here = (found (λ x. x) fresh fresh 0 rows p r e h g).here;
      changed = λ change. (found change fresh fresh 0 rows p r e h g).changed;
    }

pub gap : (fresh : OpenRowView) (rows : List OpenRowView) (p : ℕ) → Rises 0 (instants_of rows) → place_of fresh.instant rows ≡ p → p ≤ length rows → (p < length rows → (get_or rows p fresh).instant ≢ fresh.instant) → IsGap fresh rows p
gap fresh rows p r e h g = record {
  within = h;
  none = (missing (λ x. x) fresh fresh 0 rows p r e g).none;
  changed = λ change. (missing change fresh fresh 0 rows p r e g).changed;
}

pub no_row_place : (fresh : OpenRowView) (rows : List OpenRowView) (p : ℕ) (d : OpenRowView) → Rises 0 (instants_of rows) → place_of fresh.instant rows ≡ p → p < length rows → (get_or rows p d).instant ≢ fresh.instant → IsGap fresh rows p
no_row_place fresh rows p d r e h n =
    gap fresh rows p r e (omega arith) (λ k g. n (rw (get_or_default rows p fresh d h) at g))

-- a row that is offered a frame, put back at its place
pub offered : (fresh : OpenRowView) (rows : List OpenRowView) (p : ℕ) (change : OpenRowView → OpenRowView) (row : OpenRowView) (b : Bool) → IsRowPlace fresh rows p → row ≡ (if b then change (get_or rows p fresh) else get_or rows p fresh) → set rows p row ≡ (if b then with_row change fresh rows else rows)
offered fresh rows p change row true f e = rw e (sym (f.changed change))
offered fresh rows p change row false f e = rw e (set-get_or rows p fresh)
