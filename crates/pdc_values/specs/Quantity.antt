-- What the words of a block stand for (IEEE C37.118.2-2011, tables 6 and 9, in 16-bit formats).
use Rattle.std.specs.Prelude.{◌≡◌, ℕ, ℤ, pos, ◌+ℤ◌, ◌*ℤ◌, ◌*◌, refl}
use Rattle.std.specs.Int.{w16, cast_signed}

-- A word as a signed number.
abbrev pub signed_of : ℕ → ℤ
signed_of word = cast_signed w16 word

-- A real or imaginary part, in hundred-thousandths of a volt or an ampere: the word times bits 23 to 0 of PHUNIT.
abbrev pub part_of : ℕ → ℕ → ℤ
part_of word factor = signed_of word *ℤ pos factor

-- The magnitude of a polar phasor, in the same unit: its word has no sign.
abbrev pub magnitude_of : ℕ → ℕ → ℤ
magnitude_of word factor = pos (word * factor)

-- The frequency in thousandths of a hertz: FREQ is what it lies above the nominal one.
abbrev pub frequency_of : ℕ → ℕ → ℤ
frequency_of word nominal = pos (1000 * nominal) +ℤ signed_of word

-- An analog value: the word times the factor that ANUNIT gives.
abbrev pub analog_of : ℕ → ℤ → ℤ
analog_of word factor = signed_of word *ℤ factor

-- worked: a voltage of 14635 counts at 915527 is 133987.37645 V, and FREQ 2500 at 60 Hz is 62.500 Hz
worked_part : part_of 14635 915527 ≡ pos 13398737645
worked_part = refl

worked_frequency : frequency_of 2500 60 ≡ pos 62500
worked_frequency = refl

worked_below : frequency_of 65036 50 ≡ pos 49500
worked_below = refl
