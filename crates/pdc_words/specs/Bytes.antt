-- Numbers on the wire: most significant byte first (IEEE C37.118.2-2011, 6.2).
use Rattle.std.specs.Prelude.{ℕ, ◌+◌, ◌*◌, ◌<◌, List, slice_index}

-- each element is a byte
abbrev pub AreBytes : List ℕ → Type 0
AreBytes bytes = (i : ℕ) → slice_index bytes i < 256

-- the 16-bit word whose first byte stands here: 12 34 is 4660
abbrev pub word_at : List ℕ → ℕ → ℕ
word_at bytes place = 256 * slice_index bytes place + slice_index bytes (place + 1)

-- the 32-bit word whose first byte stands here: 44 85 27 F0 is 1149577200
abbrev pub long_at : List ℕ → ℕ → ℕ
long_at bytes place = 65536 * word_at bytes place + word_at bytes (place + 2)
