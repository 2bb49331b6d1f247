use Rattle.std.proofs.Common.{arith, rules, ◌≡◌, ◌+◌, ◌-◌, ◌≤◌, ◌++◌, ℕ, List, length, refl, sym, take, drop}
use Rattle.std.proofs.Math.Seq.{take-append-add}
use Rattle.std.proofs.lemmas.List.{length-drop, length-take-le, take-append-drop, take-append-le}
use Rattle.pdc_values.proofs.scaled.append_written.Goals as goal

-- of 32 bytes that were appended the first n stay
first_stay : (bytes behind : List ℕ) (n : ℕ) → n ≤ 32 → 32 ≤ length behind →
    take (length bytes + n) (bytes ++ take 32 behind) ≡ bytes ++ take n behind
first_stay bytes behind n few room =
    let within : n ≤ length (take 32 behind) = omega (arith, length-take-le 32 behind room) in
    let shorter : take n (take 32 behind) ≡ take n behind =
    rw (sym (take-append-le n (take 32 behind) (drop 32 behind) within), take-append-drop 32 behind) refl in
    rw (take-append-add bytes (take 32 behind) n, shorter) refl

pub returns : goal.returns
returns c =
    let size : c.len-len.result ≡ length c.args.out.now.items = search rules in
    let width : c.args.start + 32 - c.args.start ≡ 32 = omega arith in
    rw (c.truncate.ensures.items, c.in_ok-extend_from_slice.ensures.items, size, width)
    (first_stay c.args.out.now.items (drop c.args.start c.args.text.now) (32 - c.args.start) (omega arith)
    (omega (arith, length-drop c.args.start c.args.text.now)))
