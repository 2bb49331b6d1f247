use Rattle.std.proofs.Common.{◌≡◌, ◌∙◌, ◌<◌, ◌||◌, Bool, List, arith, eqb, false, get_or, length, not, sym}
use Rattle.std.proofs.lemmas.Bool.{eqb-true, not-false, not-true, or_parts}
use Rattle.std.proofs.lemmas.List.{get_or_default, take_all, take_more_same}
use Rattle.pdc_block.proofs.pdc_cfg.Shapes.{same_shape}
use Rattle.pdc_block.specs.pdc_cfg.declared.shape.Shape.{Shape}
use Rattle.pdc_row.proofs.shapes.are_same.Goals as goal

-- where none of three numbers was found to differ
alike : (before : Bool) (one other : Shape) → (((before || not (eqb one.phasors other.phasors)) || not (eqb one.analogs other.analogs)) || not (eqb one.digitals other.digitals)) ≡ false → (before ≡ false) × (one ≡ other)
alike before one other none =
    let third = or_parts ((before || not (eqb one.phasors other.phasors)) || not (eqb one.analogs other.analogs)) (not (eqb one.digitals other.digitals)) none in
    let second = or_parts (before || not (eqb one.phasors other.phasors)) (not (eqb one.analogs other.analogs)) third.0 in
    let first = or_parts before (not (eqb one.phasors other.phasors)) second.0 in (
      first.0,
      same_shape one other (eqb-true one.phasors other.phasors (not-false (eqb one.phasors other.phasors) first.1))
          (eqb-true one.analogs other.analogs (not-false (eqb one.analogs other.analogs) second.1))
          (eqb-true one.digitals other.digitals (not-false (eqb one.digitals other.digitals) third.1)),
    )

pub loop-place-preserved : goal.loop-place-preserved
loop-place-preserved c =
    λ none.
    let xs : List Shape = c.args.some.now in
    let ys : List Shape = c.args.others.now in
    let i = c.loop-place.place in
    let here = alike c.loop-place.differ (get_or xs i c.index-some-place.result) (get_or ys i c.index-others-place.result) none in
    let inside : i < length ys = omega (arith, c.loop-place-test.true, c.told-others) in
    take_more_same xs ys i c.index-some-place.result (omega (arith, c.loop-place-test.true, c.told-some)) inside (c.loop-place.invariant here.0)
    (here.1 ∙ get_or_default ys i c.index-others-place.result c.index-some-place.result inside)

pub returns : goal.returns
returns c =
    λ e.
    sym (take_all c.loop-place.place c.args.some.now (omega (arith, c.told-some, c.loop-place-test.false)))
    ∙ c.loop-place.invariant (not-true c.loop-place.differ e)
    ∙ take_all c.loop-place.place c.args.others.now (omega (arith, c.told-others, c.loop-place-test.false))
