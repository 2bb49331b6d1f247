-- A script that is played line by line: what is printed of it, and where it ends. What an event replies, why it is refused,
-- and which frames were sent is the player's; the definitions here are of any player.
use Rattle.std.specs.Prelude.{◌≡◌, ◌⊎◌, ℕ, ◌+◌, ◌-◌, ◌^◌, ◌<◌, ◌==◌, min, Bool, false, List, [], ◌∷◌, ◌++◌, length, Option, None, Some, unwrap_or}
use Rattle.std.specs.List.{list_any}
use Rattle.std.specs.Str.Lines.{strip_carriage_return}
use Rattle.pdc_history.specs.declared.event_fault.Fault.{Fault}
use Rattle.pdc_history.specs.declared.reply.Reply.{Reply}
use Rattle.pdc_history.specs.declared.reply.Reply.TheVariants.{Published}
use Rattle.pdc_history.specs.Asked.{Asked}
use Rattle.pdc_play.specs.Line.{asked_of_line}
use Rattle.pdc_play.specs.Printed.{fault_line, line_of, not_an_event}
use Rattle.pdc_play.specs.declared.ending.Ending.{Ending}
use Rattle.pdc_play.specs.declared.ending.Ending.TheVariants as ending

-- ---- lines

abbrev pub is_lf : ℕ → Bool
is_lf byte = byte == 10

-- the bytes have no LF
abbrev pub IsOneLine : List ℕ → Type 0
IsOneLine bytes = list_any is_lf bytes ≡ false

-- lines, the last first, each with the LF that ends it
abbrev pub spelled : List (List ℕ) → List ℕ
spelled [] = []
spelled (line ∷ before) = spelled before ++ (line ++ 10 ∷ [])

abbrev pub AreLines : List (List ℕ) → Type 0
AreLines [] = Unit {0}
AreLines (line ∷ before) = IsOneLine line × AreLines before

-- a counter stays at its greatest value
abbrev pub counted : ℕ → ℕ
counted n = min n (2 ^ 64 - 1)

-- how many lines are events: those that are not empty, where all were played. A CR before LF is none of a line.
abbrev pub events_of : List ℕ → ℕ
events_of [] = 0
events_of (byte ∷ bytes) = 1

abbrev pub events_in : List (List ℕ) → ℕ
events_in [] = 0
events_in (line ∷ before) = events_in before + events_of (strip_carriage_return line)

-- ---- what is played

-- the frame that a reply tells of
abbrev pub frame_of : (frames : ℕ → Option (List ℕ)) → Reply → List ℕ
frame_of frames (Published who (Some row)) = unwrap_or (frames row.number) []
frame_of frames reply = []

-- The text of a line was played as the event that it is: its reply is told.
pub record PlaysEvent {T : Type 0} (replies : T → Asked → Reply → T → Type 0) (frames : T → ℕ → Option (List ℕ)) (old : T) (text told : List ℕ) (new : T) : Type 0 where
  pub asked : Asked
  pub event : asked_of_line text ≡ Some asked
  pub reply : Reply
  pub replied : replies old asked reply new
  pub line : told ≡ line_of reply (frame_of (frames new) reply)

-- Nothing is played of an empty line.
abbrev pub PlaysText : {T : Type 0} → (T → Asked → Reply → T → Type 0) → (T → ℕ → Option (List ℕ)) → (old : T) → (text told : List ℕ) → (new : T) → Type 0
PlaysText replies frames old [] told new = (told ≡ []) × (new ≡ old)
PlaysText replies frames old (byte ∷ bytes) told new = PlaysEvent replies frames old (byte ∷ bytes) told new

-- A line was played behind those before it.
pub record PlaysBehind {T : Type 0} (replies : T → Asked → Reply → T → Type 0) (frames : T → ℕ → Option (List ℕ)) (Before : List ℕ → T → Type 0) (text printed : List ℕ) (new : T) : Type 0 where
  pub earlier : List ℕ
  pub between : T
  pub before : Before earlier between
  pub told : List ℕ
  pub plays : PlaysText replies frames between text told new
  pub whole : printed ≡ earlier ++ told

-- Lines, the last first, were played from the first state on, and all this was printed of them.
abbrev pub HasPlayed : {T : Type 0} → (T → Asked → Reply → T → Type 0) → (T → ℕ → Option (List ℕ)) → (first : T) → (lines : List (List ℕ)) → (printed : List ℕ) → (new : T) → Type 0
HasPlayed replies frames first [] printed new = (printed ≡ []) × (new ≡ first)
HasPlayed replies frames first (line ∷ before) printed new = PlaysBehind replies frames (HasPlayed replies frames first before) (strip_carriage_return line) printed new

-- ---- where a script ends

-- Why a text ends the script, which is the line of this number and would be the event of that one: it is no event, or the event is refused.
pub record IsNoEvent (text : List ℕ) (number : ℕ) (told : List ℕ) : Type 0 where
  pub some : 0 < length text
  pub none : asked_of_line text ≡ None
  pub line : told ≡ not_an_event number

pub record IsRefused {T : Type 0} (refuses : T → Asked → Fault → Type 0) (state : T) (text : List ℕ) (at : ℕ) (fault : Fault) (told : List ℕ) : Type 0 where
  pub asked : Asked
  pub event : asked_of_line text ≡ Some asked
  pub refused : refuses state asked fault
  pub line : told ≡ fault_line fault at

abbrev pub EndsBy : {T : Type 0} → (T → Asked → Fault → Type 0) → (state : T) → (text : List ℕ) → (number at : ℕ) → Ending → (told : List ℕ) → Type 0
EndsBy refuses state text number at ending.Played told = ⊥
EndsBy refuses state text number at ending.NotAnEvent told = IsNoEvent text number told
EndsBy refuses state text number at (ending.Refused fault) told = IsRefused refuses state text at fault told

-- LF, or CR and LF, ends the next line of what is left
pub record IsEnded (left text : List ℕ) : Type 0 where
  pub line : List ℕ
  pub more : List ℕ
  pub whole : left ≡ line ++ 10 ∷ more
  pub one : IsOneLine line
  pub stripped : text ≡ strip_carriage_return line

-- The next line of what is left: LF ends it, or where there is none, and the input is at its end, that.
abbrev pub IsNextLine : (AtEnd : Type 0) → (left text : List ℕ) → Type 0
IsNextLine AtEnd left text = IsEnded left text ⊎ (AtEnd × (left ≡ text) × IsOneLine text)

-- The script ends in a line of what was read, behind which the input may be at its end: all lines before it were played.
pub record EndsEarly {T : Type 0} (replies : T → Asked → Reply → T → Type 0) (refuses : T → Asked → Fault → Type 0) (frames : T → ℕ → Option (List ℕ)) (first : T) (AtEnd : Type 0) (read : List ℕ) (end : Ending) (printed : List ℕ) (last : T) : Type 0 where
  pub lines : List (List ℕ)
  pub are_lines : AreLines lines
  pub earlier : List ℕ
  pub before : HasPlayed replies frames first lines earlier last
  pub left : List ℕ
  pub whole : read ≡ spelled lines ++ left
  pub text : List ℕ
  pub next : IsNextLine AtEnd left text
  pub told : List ℕ
  pub ends : EndsBy refuses last text (counted (length lines + 1)) (counted (events_in lines + 1)) end told
  pub all : printed ≡ earlier ++ told

-- The script was played to its end, where the input is at its own: behind the last LF of what was read stands its last line, which may be
-- empty.
pub record EndsLate {T : Type 0} (replies : T → Asked → Reply → T → Type 0) (frames : T → ℕ → Option (List ℕ)) (first : T) (AtEnd : Type 0) (read printed : List ℕ) (last : T) : Type 0 where
  pub at_end : AtEnd
  pub lines : List (List ℕ)
  pub are_lines : AreLines lines
  pub text : List ℕ
  pub is_line : IsOneLine text
  pub whole : read ≡ spelled lines ++ text
  pub played : PlaysBehind replies frames (HasPlayed replies frames first lines) text printed last

-- How a script ends of which these bytes were read, behind which the input may be at its end, with all that was printed.
abbrev pub Ends : {T : Type 0} → (T → Asked → Reply → T → Type 0) → (T → Asked → Fault → Type 0) → (T → ℕ → Option (List ℕ)) → (first : T) → (AtEnd : Type 0) → (read : List ℕ) → Ending → (printed : List ℕ) → (last : T) → Type 0
Ends replies refuses frames first AtEnd read ending.Played printed last = EndsLate replies frames first AtEnd read printed last
Ends replies refuses frames first AtEnd read ending.NotAnEvent printed last = EndsEarly replies refuses frames first AtEnd read ending.NotAnEvent printed last
Ends replies refuses frames first AtEnd read (ending.Refused fault) printed last = EndsEarly replies refuses frames first AtEnd read (ending.Refused fault) printed last
