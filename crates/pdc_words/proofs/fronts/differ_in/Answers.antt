use Rattle.std.proofs.Common.{◌∙◌, ◌<◌, List, arith, eqb, get_or, length, not, sym, ℕ}
use Rattle.std.specs.Int.Bits.{bit_xor}
use Rattle.std.proofs.lemmas.Bool.{eqb-true, not-false, not-true, or_parts}
use Rattle.std.proofs.lemmas.List.{take_all, take_more_same}
use Rattle.pdc_words.proofs.FrontLemmas.{xor_bytes-at, xor_bytes-length}
use Rattle.pdc_words.specs.Linear.{xor_bytes}
use Rattle.pdc_words.proofs.fronts.differ_in.Goals as goal

pub loop-place-preserved : goal.loop-place-preserved
loop-place-preserved c =
    λ none.
    let one : List ℕ = c.args.one.now in
    let other : List ℕ = c.args.other.now in
    let i : ℕ = c.loop-place.place in
    let differs : ℕ = bit_xor (get_or one i 0) (get_or other i 0) in
    let byte : ℕ = get_or c.args.bytes.now i 0 in
    let parts = or_parts c.loop-place.differ (not (eqb differs byte)) none in
    let in_one : i < length one = omega (arith, c.loop-place-test.true) in
    let in_other : i < length other = omega (arith, c.loop-place-test.true, c.requires.other) in
    let inside : i < length (xor_bytes one other) = omega (arith, in_one, xor_bytes-length one other (sym c.requires.other)) in
    take_more_same (xor_bytes one other) c.args.bytes.now i 0 inside (omega (arith, c.loop-place-test.true, c.requires.bytes)) (c.loop-place.invariant parts.0)
    (xor_bytes-at one other i 0 in_one in_other ∙ eqb-true differs byte (not-false (eqb differs byte) parts.1))

pub returns : goal.returns
returns c =
    λ e.
    let one : List ℕ = c.args.one.now in
    let other : List ℕ = c.args.other.now in
    let i : ℕ = c.loop-place.place in
    sym (take_all i (xor_bytes one other) (omega (arith, c.loop-place-test.false, xor_bytes-length one other (sym c.requires.other))))
    ∙ c.loop-place.invariant (not-true c.loop-place.differ e)
    ∙ take_all i c.args.bytes.now (omega (arith, c.requires.bytes, c.loop-place-test.false))
