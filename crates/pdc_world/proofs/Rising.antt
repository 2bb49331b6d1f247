-- The instants that are listed of an owner are those of the rows that it published.
use Rattle.std.proofs.Common.{[], ◌++◌, ◌∙◌, ◌∷◌, ◌≡◌, ap, Bool, cond, false, filter, List, map, refl, Some, subst, sym, true, ℕ}
use Rattle.pdc_world.proofs.HeadlineNames.{A, AreRising, B, filter-append, first_mark, Happened, instants_of, InstantsRise, is_same, IsHistory, listed, listed_at, M, map-append, map-map, name_of, Published, published, published_at, Publishes, Rises, row_instants, rows_of_one, RowView, Who, who_of, World}
use Rattle.pdc_world.proofs.{Stable.{all_rising}, Told.{CannotFail, so_does}}
use Rattle.pdc_history.specs.Marks as marks

pub same_who : (who : Who) → who_of (name_of who) ≡ who
same_who A = refl
same_who who = refl

-- the instants of those that pass
abbrev instants_where : {X : Type 0} → (X → Bool) → (X → ℕ) → List X → List ℕ
instants_where p f xs = map f (filter p xs)

joined : {X : Type 0} (p : X → Bool) (f : X → ℕ) (xs ys : List X) → instants_where p f (xs ++ ys) ≡ instants_where p f xs ++ instants_where p f ys
joined p f xs ys = ap (map f) (filter-append p xs ys) ∙ map-append f (filter p xs) (filter p ys)

-- a row that was published, and one that was listed, are of this owner
abbrev is_by : Who → Who × RowView → Bool
is_by who r = is_same r.0 who

abbrev is_listed_by : Who → Published → Bool
is_listed_by who row = is_same (who_of row.who) who

abbrev instant_in : Who × RowView → ℕ
instant_in r = r.1.instant

abbrev instant_listed : Published → ℕ
instant_listed row = row.instant

one_kept : (b : Bool) (row : Published) (r : Who × RowView) → instant_listed row ≡ instant_in r → map instant_listed (cond b (row ∷ []) []) ≡ map instant_in (cond b (r ∷ []) [])
one_kept true row r e = ap (λ (n : ℕ). n ∷ []) e
one_kept false row r e = refl

same_at : (W : World) (H : List Happened) (who : Who) (h : Happened) → instants_of who (listed_at W H h) ≡ instants_where (is_by who) instant_in (published_at h)
same_at W H who (Publishes A (Some row)) = one_kept (is_same A who) _ (A, row) refl
same_at W H who (Publishes B (Some row)) = one_kept (is_same B who) _ (B, row) refl
same_at W H who (Publishes M (Some row)) = one_kept (is_same M who) _ (M, row) refl
same_at W H who h = refl

same_instants : (W : World) (H : List Happened) (who : Who) → instants_of who (listed W H) ≡ instants_where (is_by who) instant_in (published H)
same_instants W [] who = refl
same_instants W (h ∷ H) who =
    joined (is_listed_by who) instant_listed (listed W H) (listed_at W H h)
    ∙ ap (λ (ns : List ℕ). ns ++ instants_of who (listed_at W H h)) (same_instants W H who)
    ∙ ap (λ (ns : List ℕ). instants_where (is_by who) instant_in (published H) ++ ns) (same_at W H who h)
    ∙ sym (joined (is_by who) instant_in (published H) (published_at h))

of_rows : (H : List Happened) (who : Who) → row_instants (rows_of_one who (published H)) ≡ instants_where (is_by who) instant_in (published H)
of_rows H who = map-map (λ (r : RowView). r.instant) (λ (r : Who × RowView). r.1) (filter (is_by who) (published H))

without_low : (low : ℕ) (ns : List ℕ) → Rises low ns → AreRising ns
without_low low [] k = tt
without_low low (n ∷ ns) k = k.1

pub instants_rise_in : marks.InstantsRise → (W : World) (H : List Happened) → IsHistory W H → InstantsRise (listed W H)
instants_rise_in R W H is who =
    subst AreRising (of_rows H who ∙ sym (same_instants W H who)) (without_low (first_mark W who).floor (row_instants (rows_of_one who (published H))) (R W H who is))

-- of whatever is seen
pub rise : (rows : List Published) → CannotFail (InstantsRise rows) → InstantsRise rows
rise rows k who = all_rising (instants_of who rows) (so_does (λ (r : InstantsRise rows). r who) k)
