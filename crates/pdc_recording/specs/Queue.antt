-- The entries that wait to be written.
use Rattle.std.specs.Prelude.{◌≡◌, refl, ℕ, ◌+◌, ◌&&◌, Bool, true, false, List, [], ◌∷◌, nat_lt}
use Rattle.pdc_recording.specs.Room.{has_room}
use Rattle.pdc_recording.specs.declared.queue.TheConstants.{MOST_LASTING, MOST_WAITING, RESERVED}
use Rattle.pdc_recording.specs.declared.queue.Turn.{Turn}
use Rattle.pdc_recording.specs.declared.queue.Turn.TheVariants as turn
use Rattle.pdc_recording.specs.declared.queue.Waiting.{Waiting}

-- how many entries may wait: for more there is a place where they are carried over for the whole life
abbrev pub most_of : (is_lasting : Bool) → ℕ
most_of true = MOST_WAITING + MOST_LASTING
most_of false = MOST_WAITING

-- how many bytes are taken for those that wait, which have so many: for what is carried over nothing is reserved beside them
abbrev pub taken_by : (bytes : ℕ) → (is_lasting : Bool) → ℕ
taken_by bytes true = bytes
taken_by bytes false = bytes + RESERVED

-- Where so many wait, with so many bytes, an entry of so many bytes may wait too.
abbrev pub may_wait : (waiting bytes len : ℕ) → (is_lasting : Bool) → Bool
may_wait waiting bytes len is_lasting = nat_lt waiting (most_of is_lasting) && has_room (taken_by bytes is_lasting) len

-- what comes out next: the entry that waits longest
abbrev pub turn_of : List Waiting → (is_closed : Bool) → Turn
turn_of (first ∷ behind) is_closed = turn.Entry first
turn_of [] true = turn.End
turn_of [] false = turn.Nothing

-- where 16384 wait there is a place for what is carried over alone
pub is_full : may_wait 16384 1000 100 false ≡ false
is_full = refl

pub has_place : may_wait 16384 1000 100 true ≡ true
has_place = refl

-- of 32 MiB 8 are reserved for it
pub has_no_room : may_wait 0 25_165_824 1 false ≡ false
has_no_room = refl
