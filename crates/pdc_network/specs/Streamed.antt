-- What was done with the stream of a connection, and which frames came of it.
use Rattle.std.specs.Prelude.{◌≡◌, ◌⊎◌, ℕ, List, [], ◌∷◌, ◌++◌, take, drop, Option}
use Rattle.std.specs.List.{flat_map}
use Rattle.std.specs.Io.KnownBytes.{Appends, Consumes}
use Rattle.pdc_frame.specs.Command.{command_fields}
use Rattle.pdc_frame.specs.Frame.{spelling_of}
use Rattle.pdc_frame.specs.Stream.{Held, HasTaken, IsBad}
use Rattle.pdc_frame.specs.declared.command.Command.{Command}

-- A turn with a stream: it was read, and gave these bytes, none where the read failed; or it was told a command, whole or not.
pub data Turn : Type 0 where
  DidRead : (bytes : List ℕ) → Turn
  DidTell : (command : Command) → Turn
  FailedToTell : (command : Command) → Turn

-- the bytes that were read
abbrev pub read_in : Turn → List ℕ
read_in (DidRead bytes) = bytes
read_in (DidTell command) = []
read_in (FailedToTell command) = []

-- From the one state of a stream to the other led one call that writes to it. No proof but that of the function that tells can say so.
unfoldable pub WasWritten : {T : Type 0} (before now : T) → Type 0
WasWritten before now = Unit {0}

-- The stream was let go as it stood. No proof but that of the function that lets it go can say so.
unfoldable pub WasLetGo : {T : Type 0} → T → Type 0
WasLetGo stream = Unit {0}

-- The bytes that are read are those in front of what the stream has left, which loses exactly them. A command that is told is written to it
-- as it is spelled, dated with second 0; of one that failed it may have some bytes.
abbrev pub WasDone : {T : Type 0} (remaining contents : T → Option (List ℕ)) (id : ℕ) (before now : T) → Turn → Type 0
WasDone remaining contents id before now (DidRead bytes) = Consumes (remaining before) (remaining now) bytes
WasDone remaining contents id before now (DidTell command) = WasWritten before now × Appends (contents before) (contents now) (spelling_of (command_fields id 0 command))
WasDone remaining contents id before now (FailedToTell command) = WasWritten before now

-- turn by turn, and nothing between them
abbrev pub WereDone : {T : Type 0} (remaining contents : T → Option (List ℕ)) (id : ℕ) (before now : T) → List Turn → Type 0
WereDone remaining contents id before now [] = now ≡ before
WereDone {T} remaining contents id before now (turn ∷ turns) =
    (between : T) × WasDone remaining contents id before between turn × WereDone remaining contents id between now turns

-- The stream was made so, and by these turns it became what it is. Of the bytes that were read of it, in order, a framer took those in
-- front, and these frames are exactly the ones that end in them. The others are unread.
pub record HasRun {T : Type 0} (remaining contents : T → Option (List ℕ)) (id : ℕ) (made now : T) (held : Held) (unread : List ℕ) (frames : List (List ℕ)) : Type 0 where
  pub turns : List Turn
  pub are_all : WereDone remaining contents id made now turns
  pub taken : List ℕ
  pub has_taken : HasTaken taken frames held
  pub whole : flat_map read_in turns ≡ taken ++ unread

-- By this nothing came of the stream.
abbrev pub BringsNothing : {T : Type 0} (remaining contents : T → Option (List ℕ)) (id : ℕ) (before now : T) → Type 0
BringsNothing {T} remaining contents id before now =
    (made : T) (held : Held) (unread : List ℕ) (frames : List (List ℕ)) → HasRun remaining contents id made before held unread frames
    → HasRun remaining contents id made now held unread frames

-- By this what was unread became this, and the stream lost what was read, if anything was.
abbrev pub BringsBytes : {T : Type 0} (remaining contents : T → Option (List ℕ)) (before now : T) (unread left : List ℕ) → Type 0
BringsBytes {T} remaining contents before now unread left =
    (id : ℕ) (made : T) (held : Held) (frames : List (List ℕ)) → HasRun remaining contents id made before held unread frames
    → HasRun remaining contents id made now held left frames

-- A framer took some bytes in front of those that were unread, and these frames end in them, whatever came before.
abbrev pub TakesFront : (held : Held) (unread : List ℕ) (later : Held) (left : List ℕ) (frames : List (List ℕ)) → Type 0
TakesFront held unread later left frames = (n : ℕ) × (left ≡ drop n unread)
    × ((stream : List ℕ) (before : List (List ℕ)) → HasTaken stream before held → HasTaken (stream ++ take n unread) (before ++ frames) later)

-- Nothing is left to take: each byte that was read was taken, or the last that was shows a fault.
abbrev pub IsDone : Held → (unread : List ℕ) → Type 0
IsDone held unread = (unread ≡ []) ⊎ IsBad held.step

-- The stream was let go at last, with nothing left to take, and these frames had come of it.
pub record HasEnded {T : Type 0} (remaining contents : T → Option (List ℕ)) (id : ℕ) (made : T) (frames : List (List ℕ)) : Type 0 where
  pub last : T
  pub held : Held
  pub unread : List ℕ
  pub has_run : HasRun remaining contents id made last held unread frames
  pub is_done : IsDone held unread
  pub was_let_go : WasLetGo last

-- stream by stream
abbrev pub HaveEnded : {T : Type 0} (remaining contents : T → Option (List ℕ)) (id : ℕ) (made : List T) → (frames : List (List (List ℕ))) → Type 0
HaveEnded remaining contents id [] [] = Unit {0}
HaveEnded remaining contents id (one ∷ others) (frames ∷ more) = HasEnded remaining contents id one frames × HaveEnded remaining contents id others more
HaveEnded remaining contents id _ _ = ⊥
