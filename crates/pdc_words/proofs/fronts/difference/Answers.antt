use Rattle.std.proofs.Common.{◌≡◌, ◌∙◌, ◌<◌, List, arith, get_or, length, sym, ℕ}
use Rattle.std.specs.Int.Bits.{bit_xor}
use Rattle.std.proofs.lemmas.List.{get_or-set_same, length-set, take-set, take_all, take_more_same}
use Rattle.std.proofs.Math.ListN.{set}
use Rattle.pdc_words.proofs.FrontLemmas.{xor_bytes-at, xor_bytes-length}
use Rattle.pdc_words.specs.Linear.{xor_bytes}
use Rattle.pdc_words.proofs.fronts.difference.Goals as goal

pub loop-place-preserved : goal.loop-place-preserved
loop-place-preserved c =
    let one : List ℕ = c.args.one.now in
    let other : List ℕ = c.args.other.now in
    let bytes : List ℕ = c.loop-place.bytes in
    let i : ℕ = c.loop-place.place in
    let differs : ℕ = bit_xor (get_or one i 0) (get_or other i 0) in
    let len : length (set bytes i differs) ≡ 28 = length-set bytes i differs ∙ c.loop-place.invariant.0 in
    let in_one : i < length one = omega (arith, c.loop-place-test.true, c.told-one) in
    let in_other : i < length other = omega (arith, c.loop-place-test.true, c.told-other) in
    let inside : i < length bytes = omega (arith, c.loop-place-test.true, c.loop-place.invariant.0) in (
      len,
      take_more_same (set bytes i differs) (xor_bytes one other) i 0 (omega (arith, c.loop-place-test.true, len)) (omega (arith, in_one, xor_bytes-length one other (c.told-one ∙ sym c.told-other)))
          (take-set bytes i differs ∙ c.loop-place.invariant.1) (get_or-set_same bytes i differs 0 inside ∙ sym (xor_bytes-at one other i 0 in_one in_other)),
    )

pub returns : goal.returns
returns c =
    let one : List ℕ = c.args.one.now in
    let other : List ℕ = c.args.other.now in
    let i : ℕ = c.loop-place.place in
    sym (take_all i c.loop-place.bytes (omega (arith, c.loop-place.invariant.0, c.loop-place-test.false)))
    ∙ c.loop-place.invariant.1
    ∙ take_all i (xor_bytes one other) (omega (arith, c.told-one, c.loop-place-test.false, xor_bytes-length one other (c.told-one ∙ sym c.told-other)))
