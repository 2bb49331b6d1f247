-- Rows whose columns from the front on give a present block of lane 0.
use Rattle.std.proofs.Common.{◌≡◌, ◌∙◌, ◌+◌, ◌%◌, ◌<◌, ℕ, Bool, true, false, List, ◌∷◌, ◌++◌, None, Option, Some, ap, arith, cond, drop, get_or, length, map, set, sym, take}
use Rattle.std.specs.Prelude.{option_map}
use Rattle.std.specs.Option.{option_to_list}
use Rattle.std.proofs.lemmas.Bool.{false≢true}
use Rattle.std.proofs.lemmas.List.{set-get_or}
use Rattle.pdc_row.specs.pdc_cfg.declared.shape.Shape.{Shape}
use Rattle.pdc_row.specs.CellView.{BlockView, CellView, is_present}
use Rattle.pdc_row.specs.Chosen.{block_or_absent, first_of, present_of}
use Rattle.pdc_row.specs.KeptBlocks.{shapes_of}
use Rattle.pdc_row.specs.Quality.{time_quality_of, worst_of}
use Rattle.pdc_columns.specs.Chosen.{chosen_of}
use Rattle.pdc_columns.specs.ColumnParts.{column_of, columns_of, nothing, worst_kept}
use Rattle.pdc_columns.specs.Giving.{blocks_of, qualities_of}
use Rattle.pdc_columns.specs.Views.{kept}
use Rattle.pdc_columns.specs.declared.column.Held.{Held}
use Rattle.pdc_columns.proofs.WholeRows.{step_over, whole_at, whole_count, whole_qualities}

-- where lane 0 holds a present block, it is chosen
with_first : (b : Bool) (f : BlockView) (q : ℕ) (o : Option CellView) → b ≡ true → is_present f ≡ true → first_of (present_of (kept b (record { block = f; quality = q }))) o ≡ Some (record { block = f; quality = q })
with_first false f q o e p = absurd (false≢true e)
with_first true f q o e p = ap (λ (x : Bool). first_of (cond x (Some (record { block = f; quality = q })) None) o) p

chosen_first : (h : Held) (f s : BlockView) → h.first ≡ true → is_present f ≡ true → chosen_of (column_of h f s) ≡ Some (record { block = f; quality = h.first_quality })
chosen_first h f s e p = with_first h.first f h.first_quality (present_of (column_of h f s).second) e p

-- one column more
pub front_blocks : (hs : List Held) (fs ss : List BlockView) (i : ℕ) (d : BlockView) → i < length fs → length fs ≡ length hs → length ss ≡ length hs → (get_or hs i nothing).first ≡ true → is_present (get_or fs i d) ≡ true
    → take i (blocks_of (map (λ (s : Shape). Some s) (shapes_of fs)) (columns_of hs fs ss)) ++ drop i fs ≡ fs
    → take (i + 1) (blocks_of (map (λ (s : Shape). Some s) (shapes_of fs)) (columns_of hs fs ss)) ++ drop (i + 1) fs ≡ fs
front_blocks hs fs ss i d l h k e p now =
    let given : List BlockView = blocks_of (map (λ (s : Shape). Some s) (shapes_of fs)) (columns_of hs fs ss) in
    let count : length given ≡ length fs = whole_count hs fs ss h k in
    let one : get_or given i d ≡ get_or fs i d =
    whole_at hs fs ss i d d.shape l h k
    ∙ ap (block_or_absent (get_or (shapes_of fs) i d.shape)) (chosen_first (get_or hs i nothing) (get_or fs i d) (get_or ss i d) e p) in
    sym (step_over given fs i d (omega (arith, l, count)) l) ∙ ap (λ (bs : List BlockView). set bs i (get_or given i d)) now ∙ ap (set fs i) one ∙ set-get_or fs i d

pub front_qualities : (hs : List Held) (fs ss : List BlockView) (i above next : ℕ) (d : BlockView) (total : ℕ) → i < length fs → length fs ≡ length hs → length ss ≡ length hs → (get_or hs i nothing).first ≡ true → is_present (get_or fs i d) ≡ true
    → ((ns : List ℕ) → worst_of (worst_kept next) ns ≡ worst_of (worst_kept above) ((get_or hs i nothing).first_quality % 16 ∷ ns))
    → worst_of (worst_kept above) (qualities_of (drop i (map (λ (s : Shape). Some s) (shapes_of fs))) (drop i (columns_of hs fs ss))) ≡ total
    → worst_of (worst_kept next) (qualities_of (drop (i + 1) (map (λ (s : Shape). Some s) (shapes_of fs))) (drop (i + 1) (columns_of hs fs ss))) ≡ total
front_qualities hs fs ss i above next d total l h k e p more now =
    let rest : List ℕ = qualities_of (drop (i + 1) (map (λ (s : Shape). Some s) (shapes_of fs))) (drop (i + 1) (columns_of hs fs ss)) in
    more rest
    ∙ ap (worst_of (worst_kept above)) (sym (whole_qualities hs fs ss i d d.shape l h k
    ∙ ap (λ (o : Option CellView). option_to_list (option_map time_quality_of o) ++ rest) (chosen_first (get_or hs i nothing) (get_or fs i d) (get_or ss i d) e p)))
    ∙ now
