-- What stands between TIME and CHK of an entry: a fixed part, and then a datagram, a frame or a settings text.
use Rattle.std.specs.Prelude.{◌≡◌, ℕ, ◌^◌, ◌<◌, Bool, true, false, List, [], ◌∷◌, ◌++◌, length, slice_index, Option, Some, None}
use Rattle.std.specs.List.{flat_map}
use Rattle.std.specs.Int.{w16, w32, w64, to_be_bytes}
use Rattle.pdc_record.specs.declared.begun.Role.{Role}
use Rattle.pdc_record.specs.declared.begun.Role.TheVariants.{Node, Merger}
use Rattle.pdc_life.specs.pdc_row.declared.limits.TheConstants.{MAX_PMUS}
use Rattle.pdc_record.specs.declared.limits.TheConstants.{VERSION}
use Rattle.pdc_record.specs.Answers.{answer_number}
use Rattle.pdc_record.specs.Told.{Start, Tick, Told, Began, Arrived, Unanswered, Ticked, FoundNone, Popped, Laid, Missing, NoFrame}

-- KIND
abbrev pub kind_number : Told → ℕ
kind_number (Began s) = 0
kind_number (Arrived stream outcome datagram) = 1
kind_number (Unanswered stream datagram) = 2
kind_number (Ticked t) = 3
kind_number FoundNone = 4
kind_number (Popped instant frame) = 5
kind_number (Laid frame) = 6
kind_number (Missing until) = 7
kind_number (NoFrame stream outcome len front) = 8

-- ROLE
abbrev pub role_number : Role → ℕ
role_number Node = 0
role_number Merger = 1

-- two bytes a number, most significant first: 1 and 258 are 00 01 01 02
abbrev pub words_of : List ℕ → List ℕ
words_of numbers = flat_map (to_be_bytes w16) numbers

-- VERSION, ROLE, ID, RATE, START and FLOOR
abbrev pub front_of : Start → List ℕ
front_of s = to_be_bytes w16 VERSION ++ (role_number s.role ∷ (to_be_bytes w16 s.id ++ (to_be_bytes w16 s.rate ++ (to_be_bytes w32 s.start ++ to_be_bytes w64 s.floor))))

-- NOW and PROGRAM
abbrev pub back_of : Start → List ℕ
back_of s = to_be_bytes w64 s.now ++ words_of s.program

-- FLAGS: bit 0, that there is a change number; bit 1, that none was left
abbrev pub flags_of : Option ℕ → Bool → ℕ
flags_of None false = 0
flags_of (Some change) false = 1
flags_of None true = 2
flags_of (Some change) true = 3

-- CHANGE, 0 where there is none
abbrev pub change_number : Option ℕ → ℕ
change_number None = 0
change_number (Some change) = change

-- CLOSED, FLAGS and CHANGE
abbrev pub outcome_of : Tick → List ℕ
outcome_of t = to_be_bytes w32 t.closed ++ (flags_of t.change t.used_up ∷ to_be_bytes w32 (change_number t.change))

-- FLAG: 1 where a frame follows
abbrev pub flag_of : Option (List ℕ) → ℕ
flag_of None = 0
flag_of (Some frame) = 1

-- the fixed part
abbrev pub fixed_of : Told → List ℕ
fixed_of (Began s) = front_of s ++ (words_of s.counts ++ back_of s)
fixed_of (Arrived stream outcome datagram) = to_be_bytes w16 stream ++ (answer_number outcome ∷ [])
fixed_of (Unanswered stream datagram) = to_be_bytes w16 stream
fixed_of (Ticked t) = to_be_bytes w64 t.now ++ (words_of t.counts ++ outcome_of t)
fixed_of FoundNone = []
fixed_of (Popped instant frame) = to_be_bytes w64 instant ++ (flag_of frame ∷ [])
fixed_of (Laid frame) = []
fixed_of (Missing until) = to_be_bytes w64 until
fixed_of (NoFrame stream outcome len front) = to_be_bytes w16 stream ++ (answer_number outcome ∷ to_be_bytes w32 len)

-- the datagram, the frame or the settings text
abbrev pub rest_of : Told → List ℕ
rest_of (Began s) = s.settings
rest_of (Arrived stream outcome datagram) = datagram
rest_of (Unanswered stream datagram) = datagram
rest_of (Ticked t) = []
rest_of FoundNone = []
rest_of (Popped instant None) = []
rest_of (Popped instant (Some frame)) = frame
rest_of (Laid frame) = frame
rest_of (Missing until) = []
rest_of (NoFrame stream outcome len front) = front

abbrev pub body_of : Told → List ℕ
body_of told = fixed_of told ++ rest_of told

-- so many numbers of 16 bits
pub record AreWords (many : ℕ) (numbers : List ℕ) : Type 0 where
  pub size : length numbers ≡ many
  pub each : (i : ℕ) → slice_index numbers i < 2 ^ 16

pub record FitsStart (s : Start) : Type 0 where
  pub id : s.id < 2 ^ 16
  pub rate : s.rate < 2 ^ 16
  pub start : s.start < 2 ^ 32
  pub floor : s.floor < 2 ^ 64
  pub counts : AreWords MAX_PMUS s.counts
  pub now : s.now < 2 ^ 64
  pub program : AreWords 3 s.program

pub record FitsTick (t : Tick) : Type 0 where
  pub now : t.now < 2 ^ 64
  pub counts : AreWords MAX_PMUS t.counts
  pub closed : t.closed < 2 ^ 32
  pub change : change_number t.change < 2 ^ 32

-- each number fits its width
abbrev pub FitsWidths : Told → Type 0
FitsWidths (Began s) = FitsStart s
FitsWidths (Arrived stream outcome datagram) = stream < 2 ^ 16
FitsWidths (Unanswered stream datagram) = stream < 2 ^ 16
FitsWidths (Ticked t) = FitsTick t
FitsWidths FoundNone = Unit {0}
FitsWidths (Popped instant frame) = instant < 2 ^ 64
FitsWidths (Laid frame) = Unit {0}
FitsWidths (Missing until) = until < 2 ^ 64
FitsWidths (NoFrame stream outcome len front) = (stream < 2 ^ 16) × (len < 2 ^ 32)

-- a body of this kind says this
pub record IsTold (kind : ℕ) (body : List ℕ) (told : Told) : Type 0 where
  pub kind_is : kind_number told ≡ kind
  pub spelled : body ≡ body_of told
  pub fits : FitsWidths told
