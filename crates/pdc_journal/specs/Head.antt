-- What the front of a datagram says: SYNC, SOC and FRACSEC of any frame, and STAT of a data frame (IEEE C37.118.2-2011, 6.2 and 6.3).
use Rattle.std.specs.Prelude.{◌≡◌, refl, ℕ, ◌/◌, ◌%◌, ◌^◌, ◌==◌, ◌&&◌, Bool, true, false, nat_le, if◌then◌else◌, List, [], ◌∷◌, length, slice_index, Option, None, Some}
use Rattle.pdc_block.specs.Stat.{has_bit}
use Rattle.pdc_frame.specs.Bytes.{long_at, word_at}
use Rattle.pdc_frame.specs.Frame.{number_of}
use Rattle.pdc_frame.specs.Instant.{instant_of}
use Rattle.pdc_frame.specs.declared.frame.Kind.TheVariants.{DataFrame}

-- The SYNC of a data frame (table 2): the byte AA, and a byte whose bits 6 to 4 tell the kind, 0 of data. Its bit 7 is reserved, and bits
-- 3 to 0 are the version.
abbrev pub is_data : List ℕ → Bool
is_data bytes = nat_le 2 (length bytes) && (slice_index bytes 0 == 0xAA) && (slice_index bytes 1 / 2 ^ 4 % 2 ^ 3 == number_of DataFrame)

-- AA01 is data of version 1, AA11 a header, AA31 a CFG-2 frame, AA41 a command
pub of_data : is_data (0xAA ∷ 0x01 ∷ []) ≡ true
of_data = refl

pub of_header : is_data (0xAA ∷ 0x11 ∷ []) ≡ false
of_header = refl

pub of_configuration : is_data (0xAA ∷ 0x31 ∷ []) ≡ false
of_configuration = refl

pub of_command : is_data (0xAA ∷ 0x41 ∷ []) ≡ false
of_command = refl

-- The instant of the time tag (table 2): SOC is the long word at byte 6, and the count of FRACSEC are the low 24 bits of that at byte 10.
-- Bytes that end before it have none, and a tag that stands for no instant has none.
abbrev pub instant_in : (rate time_base : ℕ) → List ℕ → Option ℕ
instant_in rate time_base bytes =
    if nat_le 14 (length bytes) then instant_of (long_at bytes 6) (long_at bytes 10 % 2 ^ 24) time_base rate else None

-- the instant of a data frame
abbrev pub data_instant_in : (rate time_base : ℕ) → List ℕ → Option ℕ
data_instant_in rate time_base bytes = if is_data bytes then instant_in rate time_base bytes else None

-- Bit 10 of STAT in the first block of a data frame, the word at byte 14: the configuration will change, set for a minute before it does
-- (tables 5 and 7). Bytes that are no data, or end before STAT, say nothing of it.
abbrev pub change_in : List ℕ → Option Bool
change_in bytes = if is_data bytes && nat_le 16 (length bytes) then Some (has_bit 10 (word_at bytes 14)) else None

-- data of version 1 with STAT 0400, with STAT 0000, and without STAT
pub changes : change_in (0xAA ∷ 0x01 ∷ 0 ∷ 18 ∷ 0 ∷ 7 ∷ 0 ∷ 0 ∷ 0 ∷ 0 ∷ 0 ∷ 0 ∷ 0 ∷ 0 ∷ 0x04 ∷ 0x00 ∷ []) ≡ Some true
changes = refl

pub stays : change_in (0xAA ∷ 0x01 ∷ 0 ∷ 18 ∷ 0 ∷ 7 ∷ 0 ∷ 0 ∷ 0 ∷ 0 ∷ 0 ∷ 0 ∷ 0 ∷ 0 ∷ 0x00 ∷ 0x00 ∷ []) ≡ Some false
stays = refl

pub ends_early : change_in (0xAA ∷ 0x01 ∷ 0 ∷ 18 ∷ 0 ∷ 7 ∷ 0 ∷ 0 ∷ 0 ∷ 0 ∷ 0 ∷ 0 ∷ 0 ∷ 0 ∷ []) ≡ None
ends_early = refl
