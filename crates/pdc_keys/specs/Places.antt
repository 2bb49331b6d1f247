-- Places on the network, as HOST:PORT, and addresses, as values of a document.
use Rattle.std.specs.Prelude.{◌==◌, ℕ, Bool, false, List, [], ◌∷◌, if◌then◌else◌, Option, Some, None, IsSomeAnd, option_and_then}
use Rattle.std.specs.Net.Grammar.{IsIpText}
use Rattle.std.specs.Str.{all_ascii_digits}
use Rattle.std.specs.declared.net.ip_addr.IpAddr.{IpAddr}
use Rattle.toml.specs.Data.{Data, as_str}
use Rattle.pdc_keys.specs.declared.unread.Unread.{Unread}

-- the code of a colon
abbrev pub COLON : ℕ
COLON = 58

-- the later one, where there is one
abbrev pub later_or : Option (List ℕ) → Option (List ℕ) → Option (List ℕ)
later_or None first = first
later_or (Some later) first = Some later

-- what stands behind the last colon
abbrev pub behind_colon : List ℕ → Option (List ℕ)
behind_colon [] = None
behind_colon (byte ∷ bytes) = later_or (behind_colon bytes) (if byte == COLON then Some bytes else None)

-- digits, at least one
abbrev pub are_digits : Option (List ℕ) → Bool
are_digits None = false
are_digits (Some []) = false
are_digits (Some (byte ∷ bytes)) = all_ascii_digits (byte ∷ bytes)

-- behind its last colon a place has the digits of its port
abbrev pub is_place : List ℕ → Bool
is_place text = are_digits (behind_colon text)

-- the place that a value is the text of
abbrev pub place_of : List ℕ → Option (List ℕ)
place_of text = if is_place text then Some text else None

abbrev pub as_place : Data → Option (List ℕ)
as_place value = option_and_then place_of (as_str value)

-- the value is the text of this address
abbrev pub WritesIp : Data → IpAddr → Type 0
WritesIp value ip = IsSomeAnd (as_str value) (λ text. IsIpText text ip)

-- why no text was read: this lacks, or memory was wanted
abbrev pub IsUnread : Type 0 → Unread → Type 0
IsUnread lacks Unread.NoPlace = lacks
IsUnread lacks Unread.NoMemory = Unit {0}
