-- What a life puts on the channel: a function of the life.
use Rattle.std.specs.Prelude.{◌≡◌, ℕ, ◌+◌, ◌/◌, ◌%◌, ◌-◌, ◌^◌, ◌==◌, ◌≤◌, min, Bool, true, false, ◌&&◌, ◌||◌, List, [], ◌∷◌, ◌++◌, length, if◌then◌else◌, Option, None, Some}
use Rattle.pdc_life.specs.Answer.{ReadStep, Rules}
use Rattle.pdc_life.specs.Given.{Given}
use Rattle.pdc_life.specs.Life.{Arrive, Entry, Pop, Tick, is_adoption, now_of}
use Rattle.pdc_life.specs.Published.{layout_wire}
use Rattle.pdc_log.specs.Log.{InTheLife}
use Rattle.pdc_row.specs.Layout.{wire_of}
use Rattle.pdc_row.specs.declared.output.Output.{Output}
use Rattle.pdc_pipe.specs.Sequence.{bytes_of}
use Rattle.pdc_pipe.specs.declared.message.LayoutFrame.{LayoutFrame}
use Rattle.pdc_pipe.specs.declared.message.Message.{Message}
use Rattle.pdc_pipe.specs.declared.message.Message.TheVariants.{Layout}

-- how many ticks
abbrev pub ticks_in : List Entry → ℕ
ticks_in [] = 0
ticks_in (Arrive s bytes arrival answer ∷ E) = ticks_in E
ticks_in (Tick now counts answer ∷ E) = ticks_in E + 1
ticks_in (Pop row ∷ E) = ticks_in E

-- one of them adopted
abbrev pub has_adopted : List Entry → Bool
has_adopted [] = false
has_adopted (Arrive s bytes arrival answer ∷ E) = has_adopted E
has_adopted (Tick now counts answer ∷ E) = is_adoption (Tick now counts answer) || has_adopted E
has_adopted (Pop row ∷ E) = has_adopted E

-- the last one did
abbrev pub last_adopted : List Entry → Bool
last_adopted [] = false
last_adopted (Arrive s bytes arrival answer ∷ E) = last_adopted E
last_adopted (Tick now counts answer ∷ E) = is_adoption (Tick now counts answer)
last_adopted (Pop row ∷ E) = last_adopted E

-- The layout is put after the rows of a tick: where the tick adopted, or where one did and the number of the tick, from 1 on, is a multiple
-- of `every`.
abbrev pub is_told : (every : ℕ) → List Entry → Bool
is_told every E = last_adopted E || (has_adopted E && (ticks_in E % every == 0))

-- the second of an instant, or the greatest that a frame can say
abbrev pub second_at : (rate now : ℕ) → ℕ
second_at rate now = min (now / rate) (2 ^ 32 - 1)

-- the layout where it is put, dated with the second of the last tick
abbrev pub layout_in : Given → (rate every : ℕ) → List Entry → List (List ℕ)
layout_in g rate every E = if is_told every E then layout_wire g E (second_at rate (now_of g E)) ∷ [] else []

-- The frames of a life, in order: of each row the data frame as it is popped, and the layout where a pop finds none.
abbrev pub frames_of : Given → Output → (rate every : ℕ) → List Entry → List (List ℕ)
frames_of g output rate every [] = []
frames_of g output rate every (Arrive s bytes arrival answer ∷ E) = frames_of g output rate every E
frames_of g output rate every (Tick now counts answer ∷ E) = frames_of g output rate every E
frames_of g output rate every (Pop (Some row) ∷ E) = frames_of g output rate every E ++ wire_of output row ∷ []
frames_of g output rate every (Pop None ∷ E) = frames_of g output rate every E ++ layout_in g rate every E

-- no row was due any more: of ticks and pops the last is a pop that found none, or there is no such step
abbrev pub is_done : List Entry → Bool
is_done [] = true
is_done (Arrive s bytes arrival answer ∷ E) = is_done E
is_done (Tick now counts answer ∷ E) = false
is_done (Pop (Some row) ∷ E) = false
is_done (Pop None ∷ E) = true

-- so it was before each tick
abbrev pub are_done : List Entry → Bool
are_done [] = true
are_done (Arrive s bytes arrival answer ∷ E) = are_done E
are_done (Tick now counts answer ∷ E) = is_done E && are_done E
are_done (Pop row ∷ E) = are_done E

-- All rows that were due came out before each tick;
abbrev pub AreDone : Rules → Option Given → (seen : List ReadStep) → Type 0
AreDone rules named seen = InTheLife rules named seen (λ g E. are_done E ≡ true)

-- and now.
abbrev pub IsDone : Rules → Option Given → (seen : List ReadStep) → Type 0
IsDone rules named seen = InTheLife rules named seen (λ g E. (is_done E ≡ true) × (are_done E ≡ true))

-- What was put are the frames of the life, in order,
abbrev pub IsLaid : Rules → Option Given → Output → (rate every : ℕ) → (seen : List ReadStep) (put : List Message) → Type 0
IsLaid rules named output rate every seen put = InTheLife rules named seen (λ g E. frames_of g output rate every E ≡ bytes_of put)

-- but for the layout, which is to be put;
abbrev pub IsLaidUpToLayout : Rules → Option Given → Output → (rate every : ℕ) → (seen : List ReadStep) (put : List Message) → Type 0
IsLaidUpToLayout rules named output rate every seen put = InTheLife rules named seen (λ g E. frames_of g output rate every E ≡ bytes_of put ++ layout_in g rate every E)

-- or but for one at most, which was lost.
abbrev pub IsLaidBut : Rules → Option Given → Output → (rate every : ℕ) → (seen : List ReadStep) (put : List Message) → Type 0
IsLaidBut rules named output rate every seen put =
    InTheLife rules named seen (λ g E. (lost : List (List ℕ)) × (frames_of g output rate every E ≡ bytes_of put ++ lost) × (length lost ≤ 1))

-- So the next layout is asked for: whether it is put, and the instant that is now.
abbrev pub IsAsked : Rules → Option Given → (every : ℕ) → (seen : List ReadStep) → (now : ℕ) (wanted : Bool) → Type 0
IsAsked rules named every seen now wanted = InTheLife rules named seen (λ g E. (is_told every E ≡ wanted) × (now_of g E ≡ now))

-- So it stands between two ticks: whether one adopted, and the number of the last one, modulo `every`;
abbrev pub IsAt : Rules → Option Given → (every : ℕ) → (seen : List ReadStep) → (adopted : Bool) (place : ℕ) → Type 0
IsAt rules named every seen adopted place = InTheLife rules named seen (λ g E. (has_adopted E ≡ adopted) × (ticks_in E % every ≡ place))

-- and of the next one.
abbrev pub IsBefore : Rules → Option Given → (every : ℕ) → (seen : List ReadStep) → (adopted : Bool) (place : ℕ) → Type 0
IsBefore rules named every seen adopted place = InTheLife rules named seen (λ g E. (has_adopted E ≡ adopted) × ((ticks_in E + 1) % every ≡ place))

-- Where the layout is told, one frame of it was put behind what was there, as it is in force in the life, dated with this second; and else
-- nothing was.
abbrev pub HasPutLayout : Rules → Option Given → (seen : List ReadStep) → (second : ℕ) (told : Bool) (before put : List Message) → Type 0
HasPutLayout rules named seen second true before put = (frame : LayoutFrame) × (put ≡ before ++ Layout frame ∷ []) × InTheLife rules named seen (λ g E. frame.bytes.items ≡ layout_wire g E second)
HasPutLayout rules named seen second false before put = put ≡ before
