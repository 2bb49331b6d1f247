use Rattle.std.proofs.Common.{◌≡◌, ℕ, ◌<◌, ◌%◌, Bool, List, [], ◌∷◌, Some, length, map, get_or, sym, ◌∙◌, ap, arith}
use Rattle.std.specs.List.{slice_get}
use Rattle.std.proofs.lemmas.Option.{same_Some}
use Rattle.std.proofs.Math.Nat.{mod-lt}
use Rattle.std.proofs.lemmas.List.{get_or_default}
use Rattle.pdc_open_row.specs.Due.{all_taken}
use Rattle.pdc_open_row.specs.Views.{OpenRowView, blank_row}
use Rattle.pdc_table.specs.RingRows.{row_in, rows_in, with_ages}
use Rattle.pdc_table.specs.Steps.{is_first_whole}
use Rattle.pdc_table.proofs.RingAges.{aged_row}
use Rattle.pdc_table.proofs.ring.is_first_whole.Goals as goal

-- the row at the place of an instant has taken what the row there with its age has
whole_at : (required : List Bool) (places : List OpenRowView) (ages : List ℕ) (window i place : ℕ) (row : OpenRowView) (result : Bool) → 0 < window → length places ≡ window → length ages ≡ window → place ≡ i % window → row ≡ get_or places place row → result ≡ all_taken required row.taken → result ≡ all_taken required (row_in (with_ages places ages) window i).taken
whole_at required places ages window i place row result h e k v d r =
    r ∙ ap (λ (x : OpenRowView). all_taken required x.taken) (
    d ∙ get_or_default places place row (blank_row 0 0 0) (omega (arith, mod-lt i h))
    ∙ ap (λ n. get_or places n (blank_row 0 0 0)) v
    )
    ∙ sym (ap (λ (x : OpenRowView). all_taken required x.taken) (aged_row places ages window i h e k))

-- the first row is that of the first instant
first_whole : (required : List Bool) (f : ℕ → OpenRowView) (is : List ℕ) (i : ℕ) → Some i ≡ slice_get is 0 → is_first_whole required (map f is) ≡ all_taken required (f i).taken
first_whole required f [] i e = cc
first_whole required f (j ∷ js) i e = sym (ap (λ n. all_taken required (f n).taken) (same_Some i j e))

pub returns-in-Some : goal.returns-in-Some
returns-in-Some c =
    let rows = c.args.rows.now in
    let places : List OpenRowView = with_ages rows.places.items rows.ages.items in
    whole_at c.args.required.now rows.places.items rows.ages.items c.args.circle.now.window c.in-Some.instant.now c.place_of-place.result c.item.result.now c.is_whole.result
    c.args.circle.now.least c.requires.size c.requires.ages_size c.place_of-place.ensures.value c.item.ensures c.is_whole.ensures
    ∙ sym (first_whole c.args.required.now (row_in places c.args.circle.now.window) c.as_slice.result.now c.in-Some.instant.now c.in-Some.ensures.value)
    ∙ ap (λ is. is_first_whole c.args.required.now (rows_in places c.args.circle.now.window is)) c.as_slice.ensures.value
