-- The rows that are free, and their places.
use Rattle.std.proofs.Common.{◌≡◌, ℕ, ◌+◌, Bool, true, false, cond, List, [], ◌∷◌, ◌++◌, length, length-append, map, filter, ap, ◌∙◌, arith}
use Rattle.std.specs.List.{AllByRecursion}
use Rattle.std.proofs.lemmas.List.{length-map}
use Rattle.pdc_row.specs.Rising.{Rises}
use Rattle.pdc_table.specs.Closing.{aged, closes}
use Rattle.pdc_table.specs.Content.{Content, HasPlaces, IsContent, streams_of}
use Rattle.pdc_table.specs.OpenInstants.{instants_of}
use Rattle.pdc_table.specs.Steps.{closing_of, staying_of}
use Rattle.pdc_table.specs.pdc_open_row.Views.{OpenRowView}
use Rattle.pdc_table.specs.pdc_open_row.declared.wait_rule.WaitRule.{WaitRule}
use Rattle.pdc_table.proofs.Keeps.{aged_rise, front_back}

joined : (s k : ℕ) (xs ys : List OpenRowView) → AllByRecursion (HasPlaces s k) xs → AllByRecursion (HasPlaces s k) ys → AllByRecursion (HasPlaces s k) (xs ++ ys)
joined s k [] ys h g = g
joined s k (x ∷ xs) ys h g = (h.0, joined s k xs ys h.1 g)

chosen : (b : Bool) (s k : ℕ) (x : OpenRowView) (xs : List OpenRowView) → HasPlaces s k x → AllByRecursion (HasPlaces s k) xs → AllByRecursion (HasPlaces s k) (cond b (aged x ∷ xs) xs)
chosen true s k x xs h g = (record { taken = h.taken; columns = h.columns }, g)
chosen false s k x xs h g = g

older : (p : OpenRowView → Bool) (s k : ℕ) (rows : List OpenRowView) → AllByRecursion (HasPlaces s k) rows → AllByRecursion (HasPlaces s k) (filter p (map aged rows))
older p s k [] h = tt
older p s k (x ∷ xs) h = chosen (p (aged x)) s k x (filter p (map aged xs)) h.0 (older p s k xs h.1)

-- once the rows that close are free too, each free row has its places
pub each_after_tick : (c : Content) (rule : WaitRule) (free : List OpenRowView) → AllByRecursion (HasPlaces (streams_of c) c.columns) free → IsContent c → AllByRecursion (HasPlaces (streams_of c) c.columns) (free ++ closing_of c rule)
each_after_tick c rule free h k =
    joined (streams_of c) c.columns free (closing_of c rule) h (older (closes c.required rule (map aged c.open_rows)) (streams_of c) c.columns c.open_rows k.rows_each)

-- and the rows are as many as before
pub count_after_tick : (c : Content) (rule : WaitRule) (free : List OpenRowView) → Rises c.last (instants_of c.open_rows) → length (staying_of c rule) + length (free ++ closing_of c rule) ≡ length c.open_rows + length free
count_after_tick c rule free h =
    let all : length (closing_of c rule ++ staying_of c rule) ≡ length c.open_rows = ap length (front_back c.required rule c.last (map aged c.open_rows) (aged_rise c h)) ∙ length-map c.open_rows aged in
    omega (arith, length-append (closing_of c rule) (staying_of c rule), length-append free (closing_of c rule))
