-- Entries in the order of their numbers.
use Rattle.std.specs.Prelude.{◌≡◌, refl, ℕ, ◌+◌, ◌*◌, ◌-◌, ◌^◌, ◌/◌, ◌%◌, ◌==◌, ◌&&◌, Bool, true, false, List, [], ◌∷◌, Option, None, Some, min, nat_lt, nat_le, not, if◌then◌else◌}
use Rattle.pdc_record.specs.declared.entry.What.{What}
use Rattle.pdc_record.specs.declared.entry.What.TheVariants as what
use Rattle.pdc_recording.specs.declared.ordering.TheConstants.{MOST_HELD}
use Rattle.pdc_recording.specs.declared.room.TheConstants.{MOST_BYTES}
use Rattle.pdc_recording.specs.declared.queue.Position.{Position}
use Rattle.pdc_recording.specs.declared.queue.Position.TheVariants.{Step, Behind, Anywhere}
use Rattle.pdc_recording.specs.declared.ordering.Ready.{Ready}
use Rattle.pdc_recording.specs.declared.ordering.Ready.TheVariants.{Bytes, Gap}

-- Where an entry belongs that says this under this number: a step at its number, a layout behind the step that it names, the rest anywhere.
abbrev pub place_of : What → (step : ℕ) → Position
place_of (what.Arrived stream outcome datagram) step = Step step
place_of (what.NoFrame stream outcome len front) step = Step step
place_of (what.Ticked now counts closed change used_up) step = Step step
place_of what.FoundNone step = Step step
place_of (what.Popped instant frame) step = Step step
place_of (what.Laid frame) step = Behind step
place_of other step = Anywhere

-- it is let through at once where the step with this number is the next: it is no step, or comes too late for its place
abbrev pub is_let_through : Position → (next : ℕ) → Bool
is_let_through (Step number) next = nat_lt number next
is_let_through (Behind number) next = nat_lt number next
is_let_through Anywhere next = true

-- Where it stands among those that are held back: at twice its number, and one behind that where it comes behind the step.
abbrev pub key_of : Position → ℕ
key_of (Step number) = min (number * 2) (2 ^ 64 - 1)
key_of (Behind number) = min (min (number * 2) (2 ^ 64 - 1) + 1) (2 ^ 64 - 1)
key_of Anywhere = 0

-- The step that is next is waited for, where others are held back for it: it is not given up, and not too many wait.
abbrev pub is_awaited : (gives_up : Bool) → (held bytes : ℕ) → Bool
is_awaited gives_up held bytes = not gives_up && nat_lt held MOST_HELD && nat_le bytes MOST_BYTES

-- the step of a key is not there yet where this one is next
abbrev pub is_early : (key next : ℕ) → Bool
is_early key next = nat_lt next (key / 2)

-- What is written next of those that are held back, which stand by their keys: the first one. Where the next step is not among them it is
-- waited for, or else the steps up to the first one are a gap.
abbrev pub ready_of : {V : Type 0} → List (ℕ × V) → (next : ℕ) → (is_awaited : Bool) → (V → Ready) → Option Ready
ready_of [] next is_awaited bytes = None
ready_of (first ∷ behind) next is_awaited bytes =
    if is_early first.0 next then (if is_awaited then None else Some (Gap next (first.0 / 2))) else Some (bytes first.1)

-- the number of the step that is next behind that
abbrev pub next_behind : {V : Type 0} → List (ℕ × V) → (next : ℕ) → (is_awaited : Bool) → ℕ
next_behind [] next is_awaited = next
next_behind (first ∷ behind) next is_awaited =
    if is_early first.0 next then (if is_awaited then next else first.0 / 2)
    else (if first.0 % 2 == 0 then min (next + 1) (2 ^ 64 - 1) else next)

-- those that are held back then
abbrev pub held_behind : {V : Type 0} → List (ℕ × V) → (next : ℕ) → List (ℕ × V)
held_behind [] next = []
held_behind (first ∷ behind) next = if is_early first.0 next then first ∷ behind else behind

-- step 4 is there and is next: behind it step 5 is
pub is_there : next_behind {V = ℕ} ((8, 1) ∷ []) 4 true ≡ 5
is_there = refl

-- what comes behind step 4 leaves it so
pub is_behind : next_behind {V = ℕ} ((9, 1) ∷ []) 5 true ≡ 5
is_behind = refl

-- step 3 is waited for, and step 4 is the next where it is given up
pub is_waited_for : next_behind {V = ℕ} ((8, 1) ∷ []) 3 true ≡ 3
is_waited_for = refl

pub is_given_up : next_behind {V = ℕ} ((8, 1) ∷ []) 3 false ≡ 4
is_given_up = refl
