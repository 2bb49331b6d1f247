-- The table of the values of digits.
use Rattle.std.proofs.Common.{◌≡◌, ℕ, zero, suc, ◌-◌, ◌*◌, ◌+◌, ◌<◌, Bool, true, ◌&&◌, T, eqb, slice_index, Option, Some, None, Ok, refl, ap, sym, inl, inr, arith, eq-zero-or-pos, eqb→eq}
use lib.Ieee.Fits.{and_l, and_r}
use Rattle.hex.specs.Hex.{hex_digit_value, pair_value}
use Rattle.pdc_show.specs.declared.digits.TheConstants.{VALUES}

-- the value of a digit stands in the table, and a number above it for no digit
abbrev is_value : Option ℕ → ℕ → Bool
is_value (Some value) x = eqb x value
is_value None x = eqb x 255

abbrev are_values : ℕ → Bool
are_values zero = true
are_values (suc b) = is_value (hex_digit_value b) (slice_index VALUES b) && are_values b

below : (n b : ℕ) → T (are_values n) → b < n → T (is_value (hex_digit_value b) (slice_index VALUES b))
below zero b t h = absurd (omega arith)
below (suc n) b t h =
    elim (eq-zero-or-pos (n - b)) [
      | inl z ↦ let e : b ≡ n = omega arith in rw e (and_l _ (are_values n) t)
      | inr g ↦ below n b (and_r _ (are_values n) t) (omega arith)
    ]

read : (o : Option ℕ) (x : ℕ) → T (is_value o x) → x < 16 → o ≡ Some x
read (Some value) x t h = ap Some (sym (eqb→eq x value t))
read None x t h = let e : x ≡ 255 = eqb→eq x 255 t in absurd (omega (arith, e))

digit_read : (b : ℕ) → b < 256 → slice_index VALUES b < 16 → hex_digit_value b ≡ Some (slice_index VALUES b)
digit_read b h small = read (hex_digit_value b) (slice_index VALUES b) (below 256 b tt h) small

-- two digits that the table reads
pub pair_read : (a b i : ℕ) → a < 256 → b < 256 → slice_index VALUES a < 16 → slice_index VALUES b < 16
    → pair_value a b i ≡ Ok (slice_index VALUES a * 16 + slice_index VALUES b)
pair_read a b i ha hb la lb = rw (digit_read a ha la, digit_read b hb lb) refl
