-- Blocks that are the same.
use Rattle.std.proofs.Common.{◌≡◌, ◌∙◌, ◌&&◌, Bool, List, [], ◌∷◌, ap₂, true, nat_eq, refl, sym}
use Rattle.std.specs.Cmp.Lexicographic.{pointwise, same_text}
use Rattle.std.proofs.lemmas.Bool.{and_parts, eq-eqb, eqb-true, false≢true}
use Rattle.pdc_block.proofs.pdc_cfg.Shapes.{same_shape as one_shape}
use Rattle.pdc_block.specs.pdc_cfg.declared.shape.Shape.{Shape}
use Rattle.pdc_row.specs.CellView.{BlockView, same_block, same_shape}

-- shapes whose numbers are the same
pub shape_is : (a b : Shape) → same_shape a b ≡ true → a ≡ b
shape_is a b e =
    let numbers = and_parts (nat_eq a.phasors b.phasors && nat_eq a.analogs b.analogs) (nat_eq a.digitals b.digitals) e in
    let first = and_parts (nat_eq a.phasors b.phasors) (nat_eq a.analogs b.analogs) numbers.0 in
    one_shape a b (eqb-true a.phasors b.phasors first.0) (eqb-true a.analogs b.analogs first.1) (eqb-true a.digitals b.digitals numbers.1)

-- the same, where they were compared
pub found_same : (alike : Bool) (a b : Shape) → alike ≡ (nat_eq a.phasors b.phasors && (nat_eq a.analogs b.analogs && nat_eq a.digitals b.digitals)) → alike ≡ true → a ≡ b
found_same alike a b is_so e =
    let first = and_parts (nat_eq a.phasors b.phasors) (nat_eq a.analogs b.analogs && nat_eq a.digitals b.digitals) (sym is_so ∙ e) in
    let others = and_parts (nat_eq a.analogs b.analogs) (nat_eq a.digitals b.digitals) first.1 in
    one_shape a b (eqb-true a.phasors b.phasors first.0) (eqb-true a.analogs b.analogs others.0) (eqb-true a.digitals b.digitals others.1)

-- what is found the same is the same
pub block_is : (a b : BlockView) → same_block a b ≡ true → a ≡ b
block_is a b e =
    let parts = and_parts (same_shape a.shape b.shape) (pointwise nat_eq a.words b.words) e in
    let shape : a.shape ≡ b.shape = shape_is a.shape b.shape parts.0 in
    let words : a.words ≡ b.words = same_text a.words b.words (sym parts.1) in
    λ i. record { shape = shape i; words = words i }

-- as the derived comparison tells it of two shapes
abbrev pub alike : Shape → Shape → Bool
alike a b = nat_eq a.phasors b.phasors && (nat_eq a.analogs b.analogs && nat_eq a.digitals b.digitals)

-- and of lists of them
pub shapes_found_same : (some others : List Shape) → pointwise alike some others ≡ true → some ≡ others
shapes_found_same [] [] e = refl
shapes_found_same [] (b ∷ others) e = absurd (false≢true e)
shapes_found_same (a ∷ some) [] e = absurd (false≢true e)
shapes_found_same (a ∷ some) (b ∷ others) e =
    let parts = and_parts (alike a b) (pointwise alike some others) e in
    ap₂ (λ shape shapes. shape ∷ shapes) (found_same (alike a b) a b refl parts.0) (shapes_found_same some others parts.1)

pub shapes_are_same : (some : List Shape) → pointwise alike some some ≡ true
shapes_are_same [] = refl
shapes_are_same (a ∷ some) =
    ap₂ (λ x y. x && y) (ap₂ (λ x y. x && y) (eq-eqb a.phasors a.phasors refl) (ap₂ (λ x y. x && y) (eq-eqb a.analogs a.analogs refl) (eq-eqb a.digitals a.digitals refl))) (shapes_are_same some)
