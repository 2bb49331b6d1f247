use Rattle.std.proofs.Common.{arith, rules, ◌≡◌, ◌+◌, ◌<◌, ◌≤◌, ◌^◌, ◌/◌, ◌%◌, ◌∷◌, ℕ, drop, length, refl, sym}
use Rattle.std.specs.Fmt.{decimal}
use Rattle.std.proofs.Math.Nat.{div-le_of_le-mul, mod-lt}
use Rattle.std.proofs.lemmas.Fmt.{decimal_nonempty, length-decimal-le}
use Rattle.std.proofs.lemmas.List.{append_assoc, drop-append-le, drop-drop, drop-set, length-append, length-drop}
use Rattle.pdc_values.proofs.scaled.write_size.Goals as goal

-- the digits behind the point, with their 1 in front: at most seven
is_small : (size unit : ℕ) → 10 ≤ unit → unit ≤ 1000000 → unit + size % unit < 2000000
is_small size unit low high = omega (arith, mod-lt size {m = unit} (omega arith))

tail_short : (size unit : ℕ) → 10 ≤ unit → unit ≤ 1000000 → length (decimal (unit + size % unit)) ≤ 7
tail_short size unit low high =
    let small = is_small size unit low high in
    length-decimal-le 7 (unit + size % unit) (omega arith) (omega arith) (omega arith)

-- the digits before it: at most nineteen
whole_short : (size unit : ℕ) → 10 ≤ unit → size < 2 ^ 64 → length (decimal (size / unit)) ≤ 19
whole_short size unit low fits =
    let least : size / unit ≤ 1844674407370955162 = div-le_of_le-mul unit (omega arith) in
    length-decimal-le 19 (size / unit) (omega arith) (omega arith) (omega arith)

pub write_digits-point-requires : goal.write_digits-point-requires
write_digits-point-requires c = (omega (arith, tail_short c.args.size c.args.unit c.requires.low c.requires.high), search rules)

pub bounds-text-point : goal.bounds-text-point
bounds-text-point c =
    let small = is_small c.args.size c.args.unit c.requires.low c.requires.high in
    omega (arith, decimal_nonempty (c.args.unit + c.args.size % c.args.unit) (omega arith), c.write_digits-point.ensures.start)

pub write_digits-requires : goal.write_digits-requires
write_digits-requires c =
    let tail = tail_short c.args.size c.args.unit c.requires.low c.requires.high in
    let whole = whole_short c.args.size c.args.unit c.requires.low c.ranges.size.fits in
    (omega (arith, c.write_digits-point.ensures.start), search rules)

pub returns-clause-room : goal.returns-clause-room
returns-clause-room c =
    let tail = tail_short c.args.size c.args.unit c.requires.low c.requires.high in
    let whole = whole_short c.args.size c.args.unit c.requires.low c.ranges.size.fits in
    omega (arith, c.write_digits-point.ensures.start, c.write_digits.ensures.start)

pub returns-clause-start : goal.returns-clause-start
returns-clause-start c =
    let n = c.args.unit + c.args.size % c.args.unit in
    let q = c.args.size / c.args.unit in
    let small = is_small c.args.size c.args.unit c.requires.low c.requires.high in
    let behind : length (46 ∷ drop 1 (decimal n)) ≡ length (decimal n) =
    omega (arith, length-drop 1 (decimal n), decimal_nonempty n (omega arith)) in
    omega (arith, behind, length-append (decimal q) (46 ∷ drop 1 (decimal n)), c.write_digits-point.ensures.start, c.write_digits.ensures.start)

pub returns-clause-written : goal.returns-clause-written
returns-clause-written c =
    let n = c.args.unit + c.args.size % c.args.unit in
    let q = c.args.size / c.args.unit in
    let w = c.write_digits-point in
    let rest = drop 32 c.args.text.now in
    let small = is_small c.args.size c.args.unit c.requires.low c.requires.high in
    let some = decimal_nonempty n (omega arith) in
    let inside : w.result < length w.new.buf = omega (arith, some, w.ensures.start) in
    rw (
      c.write_digits.ensures.written,
      drop-set w.new.buf w.result 46 inside,
      sym (drop-drop 1 w.result w.new.buf),
      w.ensures.written,
      drop-append-le 1 (decimal n) rest some,
      append_assoc (decimal q) (46 ∷ drop 1 (decimal n)) rest,
    ) refl
