-- Lanes: a long polynomial as a list of numbers of 64 bits.
use Rattle.std.specs.Prelude.{ℕ, ◌+◌, ◌*◌, ◌^◌, List, [], ◌∷◌, length}
use Rattle.std.specs.Int.{w64, to_le_bytes}
use Rattle.pdc_words.specs.CheckWord.{high_of_product, polynomial_of}

-- lanes as one polynomial, the first highest
unfoldable pub number_of_lanes : List ℕ → ℕ
number_of_lanes [] = 0
number_of_lanes (lane ∷ lanes) = lane * 2 ^ (64 * length lanes) + number_of_lanes lanes

-- the polynomial whose product with x^1024 has these sixteen lanes as its quotient by the generator's 64th power,
-- x^1024 + x^768 + x^320 + 1
unfoldable pub state_of_lanes : List ℕ → ℕ
state_of_lanes lanes = high_of_product 256 704 1024 (number_of_lanes lanes)

-- a lane as it was read: its lowest byte stands first
unfoldable pub turned : ℕ → ℕ
turned lane = polynomial_of (to_le_bytes w64 lane)
