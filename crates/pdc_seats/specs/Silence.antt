-- Which consumer gives way where all places are taken.
use Rattle.std.specs.Prelude.{◌≡◌, refl, ℕ, ◌+◌, ◌==◌, ◌&&◌, Bool, true, false, nat_le, List, [], ◌∷◌, if◌then◌else◌, Option, Some, None}
use Rattle.pdc_seats.specs.declared.silence.Silence.{Silence}

-- of the silence of the consumer with a number and of one behind it the longer; the first where both are equally long
abbrev pub longer : (number : ℕ) → (millis : Option ℕ) → (later : Option Silence) → Option Silence
longer number (Some millis) (Some later) =
    if nat_le later.millis millis then Some (record { number = number; millis = millis }) else Some later
longer number (Some millis) None = Some (record { number = number; millis = millis })
longer number None later = later

-- Who has been silent longest, the first of those: of each place there is for how long, or nothing where it is free.
abbrev pub longest : (number : ℕ) → (silences : List (Option ℕ)) → Option Silence
longest number [] = None
longest number (millis ∷ silences) = longer number millis (longest (number + 1) silences)

-- Worked: of silences of 3, 7 and 7 seconds, with a free place in front, it is the second, at place 2; of none it is nobody.
pub worked : longest 0 (None ∷ Some 3000 ∷ Some 7000 ∷ Some 7000 ∷ []) ≡ Some (record { number = 2; millis = 7000 })
worked = refl

pub nobody : longest 0 (None ∷ None ∷ []) ≡ None
nobody = refl

-- The consumer at a place gives way: it has been silent longest, and for so many milliseconds at least.
abbrev pub is_silence : (number least : ℕ) → Option Silence → Bool
is_silence number least (Some silence) = (silence.number == number) && nat_le least silence.millis
is_silence number least None = false

abbrev pub gives_way : (number least : ℕ) → (silences : List (Option ℕ)) → Bool
gives_way number least silences = is_silence number least (longest 0 silences)

-- after ten seconds: at 9999 milliseconds it does not
pub too_soon : gives_way 0 10000 (Some 9999 ∷ []) ≡ false
too_soon = refl

pub in_time : gives_way 1 10000 (Some 9999 ∷ Some 10000 ∷ []) ≡ true
in_time = refl
