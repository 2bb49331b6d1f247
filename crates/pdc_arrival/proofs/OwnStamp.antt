-- The masks of an own section tell its stamp.
use Rattle.std.proofs.Common.{◌≡◌, ℕ, ◌+◌, ◌*◌, ◌^◌, ◌<◌, List, drop, ap, sym, ◌∙◌, arith}
use Rattle.pdc_life.specs.pdc_frame.Bytes.{word_at}
use Rattle.pdc_life.specs.pdc_row.declared.output.Nominal.{Nominal}
use Rattle.pdc_life.specs.pdc_row.Layout.{own_bytes}

-- the number whose halves stand at two places behind the names
abbrev pub long_behind : ℕ → ℕ → List ℕ → ℕ
long_behind m n bytes = 65536 * word_at (drop 1050 bytes) m + word_at (drop 1050 bytes) n

pub tells_start : (id : ℕ) (m : Nominal) (start change : ℕ) → start < 2 ^ 32 → long_behind 0 4 (own_bytes id m start change) ≡ start
tells_start id m start change h = omega (arith, h)

pub tells_change : (id : ℕ) (m : Nominal) (start change : ℕ) → change < 2 ^ 32 → long_behind 8 12 (own_bytes id m start change) ≡ change
tells_change id m start change h = omega (arith, h)

-- an own section is so with the stamp that it tells
pub with_its_stamp : (id : ℕ) (m : Nominal) (bytes : List ℕ) (start change a b : ℕ) → start < 2 ^ 32 → change < 2 ^ 32 → bytes ≡ own_bytes id m start change → a ≡ long_behind 0 4 bytes → b ≡ long_behind 8 12 bytes
    → bytes ≡ own_bytes id m a b
with_its_stamp id m bytes start change a b h k e f g =
    e ∙ ap (λ (n : ℕ). own_bytes id m n change) (sym (f ∙ ap (long_behind 0 4) e ∙ tells_start id m start change h))
    ∙ ap (λ (n : ℕ). own_bytes id m a n) (sym (g ∙ ap (long_behind 8 12) e ∙ tells_change id m start change k))
