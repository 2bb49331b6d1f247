-- How much of a record waits in memory.
use Rattle.std.specs.Prelude.{◌≡◌, refl, ℕ, ◌+◌, Bool, true, false, nat_le}
use Rattle.pdc_recording.specs.declared.room.TheConstants.{MOST_BYTES}

-- an entry may wait where all that waits then has 32 MiB at most
abbrev pub has_room : (waiting len : ℕ) → Bool
has_room waiting len = nat_le (waiting + len) MOST_BYTES

-- up to the last byte, and not one more
pub fills : has_room 33_554_000 432 ≡ true
fills = refl

pub is_too_much : has_room 33_554_000 433 ≡ false
is_too_much = refl
