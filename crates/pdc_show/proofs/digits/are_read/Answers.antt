use Rattle.std.proofs.Common.{arith, ◌≡◌, ◌*◌, ◌+◌, ◌%◌, ℕ, List, Ok, length, slice_index, ap, sym, ◌∙◌}
use Rattle.hex.specs.Hex.{pair_value}
use Rattle.hex.proofs.HexLemmas.{decode_of-even}
use Rattle.hex.proofs.Pairs.{decode_step, decode_done}
use Rattle.pdc_show.specs.declared.digits.TheConstants.{VALUES}
use Rattle.pdc_show.proofs.Values.{pair_read}
use Rattle.pdc_show.proofs.digits.are_read.Goals as goal

pub bytes-preserved : goal.bytes-preserved
bytes-preserved c =
    let i : ℕ = c.bytes.i in
    let digits : List ℕ = c.args.digits.now in
    let high : ℕ = c.from.result in
    let low : ℕ = c.from-in-bytes.result in
    let first : high ≡ slice_index digits (2 * i) = c.from.ensures in
    let second : low ≡ slice_index digits (2 * i + 1) = c.from-in-bytes.ensures in
    let pair : pair_value high low (2 * i) ≡ Ok (slice_index VALUES high * 16 + slice_index VALUES low) =
    pair_read high low (2 * i) (omega (arith, first, c.type_inv.digits (2 * i))) (omega (arith, second, c.type_inv.digits (2 * i + 1))) (omega (arith, c.if-high-gt15.false)) (omega (arith, c.if-low-gt15.false)) in
    let here : pair_value (slice_index digits (2 * i)) (slice_index digits (2 * i + 1)) (2 * i) ≡ Ok (slice_index VALUES high * 16 + slice_index VALUES low) =
    ap (λ (x : ℕ). pair_value x (slice_index digits (2 * i + 1)) (2 * i)) (sym first) ∙ ap (λ (y : ℕ). pair_value high y (2 * i)) (sym second) ∙ pair in
    decode_step _ _ i _ (omega arith) (omega arith) here c.bytes.invariant

pub returns : goal.returns
returns c = λ _.
    let even : length c.args.digits.now % 2 ≡ 0 = omega arith in
    decode_of-even _ even ∙ decode_done _ c.bytes.bytes c.bytes.i (omega arith) (omega arith) c.bytes.invariant
