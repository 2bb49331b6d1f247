-- A session with a consumer: what the frames of a stream tell it, and what it answers (IEEE C37.118.2-2011, 6.6 and table 15; that
-- a session ends at a fault of its stream is this profile's).
use Rattle.std.specs.Prelude.{◌≡◌, refl, ℕ, ◌+◌, ◌-◌, ◌*◌, ◌^◌, ◌≤◌, length, take, min, true, false, List, [], ◌∷◌, ◌++◌, Option, Some, None}
use Rattle.std.specs.List.{flat_map}
use Rattle.pdc_frame.specs.Frame.{Fields, IsFrame, spelling_of}
use Rattle.pdc_frame.specs.Stream.{Held, HasTaken, pending_of}
use Rattle.pdc_frame.specs.declared.frame.Kind.TheVariants.{Cfg1, Cfg2}
use Rattle.pdc_frame.specs.declared.limits.TheConstants.{OVERHEAD}
use Rattle.pdc_cfg.specs.Config.{config_fields_of, config_frame_of, payload_of}
use Rattle.pdc_frame.specs.Command.{IsCommand, header_fields}
use Rattle.pdc_frame.specs.declared.command.Command.{Command}
use Rattle.pdc_frame.specs.declared.command.Command.TheVariants.{DataOff, DataOn, SendHeader, SendCfg1, SendCfg2, SendCfg3}
use Rattle.pdc_session.specs.declared.fault.SessionFault.{SessionFault}
use Rattle.pdc_session.specs.declared.subscription.Subscription.{Subscription}
use Rattle.pdc_session.specs.declared.serving.Serving.{Serving}

-- what a session is: its stream id, the framer of its stream, what it was told so far, and the fault that ended it
pub record SessionView : Type 0 where
  pub id : ℕ
  pub held : Held
  pub told : Subscription
  pub ended : Option SessionFault

-- The frame tells the stream this command; none where it is of another stream, or says no command.
abbrev pub Tells : (id : ℕ) → Fields → Option Command → Type 0
Tells id f (Some command) = (f.id ≡ id) × IsCommand f command
Tells id f None = (command : Command) → f.id ≡ id → IsCommand f command → ⊥

-- these bytes are such a frame
abbrev pub BytesTell : (id : ℕ) → List ℕ → Option Command → Type 0
BytesTell id bytes command = (f : Fields) × IsFrame bytes f × Tells id f command

-- frame by frame
abbrev pub AreTold : (id : ℕ) → List (List ℕ) → List (Option Command) → Type 0
AreTold id [] [] = Unit {0}
AreTold id (frame ∷ frames) (command ∷ commands) = BytesTell id frame command × AreTold id frames commands
AreTold id frames commands = ⊥

-- a counter of 64 bits stays at its greatest value
abbrev pub counted : ℕ → ℕ
counted n = min (n + 1) (2 ^ 64 - 1)

-- what a frame makes of what a session was told: data on or off, or one more frame without an effect
abbrev pub told_after : Subscription → Option Command → Subscription
told_after told (Some DataOff) = record told { on = false }
told_after told (Some DataOn) = record told { on = true }
told_after told (Some SendHeader) = told
told_after told (Some SendCfg1) = told
told_after told (Some SendCfg2) = told
told_after told (Some SendCfg3) = record told { ignored = counted told.ignored }
told_after told None = record told { ignored = counted told.ignored }

abbrev pub told_after_all : Subscription → List (Option Command) → Subscription
told_after_all told [] = told
told_after_all told (command ∷ commands) = told_after_all (told_after told command) commands

-- the reply to a frame: the header frame, the configuration as CFG-1 or CFG-2, or nothing
abbrev pub reply_of : (id : ℕ) → Serving → Option Command → List ℕ
reply_of id serving (Some SendHeader) = spelling_of (header_fields id serving.soc serving.header.now)
reply_of id serving (Some SendCfg1) = spelling_of (config_frame_of Cfg1 id serving.soc (config_fields_of serving.layout))
reply_of id serving (Some SendCfg2) = spelling_of (config_frame_of Cfg2 id serving.soc (config_fields_of serving.layout))
reply_of id serving _ = []

-- for how many bytes a reply needs room: those of the whole frame
abbrev pub needed_of : Serving → Option Command → ℕ
needed_of serving (Some SendHeader) = length serving.header.now + OVERHEAD
needed_of serving (Some SendCfg1) = length (payload_of (config_fields_of serving.layout)) + OVERHEAD
needed_of serving (Some SendCfg2) = length (payload_of (config_fields_of serving.layout)) + OVERHEAD
needed_of serving _ = 0

-- the replies, in order
abbrev pub replies_of : (id : ℕ) → Serving → List (Option Command) → List ℕ
replies_of id serving commands = flat_map (reply_of id serving) commands

-- As few frames end in so many bytes as can: the first may have begun before them, and each of the others has at least 16 bytes in them, as
-- those have that are pending behind them.
abbrev pub AreFew : List (List ℕ) → (bytes pending : ℕ) → Type 0
AreFew [] bytes pending = Unit {0}
AreFew (frame ∷ frames) bytes pending = OVERHEAD * length (frame ∷ frames) + pending ≤ bytes + (OVERHEAD - 1)

-- Worked: two frames end in 17 bytes at most, and none pends then: the last byte of one, and a whole one.
pub worked : OVERHEAD * 2 + 0 ≡ 17 + (OVERHEAD - 1)
worked = refl

-- With these bytes a session goes on from one state to another: these frames end in them, and tell these commands.
pub record Hears (id : ℕ) (piece : List ℕ) (frames : List (List ℕ)) (commands : List (Option Command)) (held : Held) (told : Subscription) (later : Held) (after : Subscription) : Type 0 where
  pub stream : (stream : List ℕ) (before : List (List ℕ)) → HasTaken stream before held → HasTaken (stream ++ piece) (before ++ frames) later
  pub tells : AreTold id frames commands
  pub told_then : after ≡ told_after_all told commands
  pub few : AreFew frames (length piece) (length (pending_of later.step later.bytes))

-- With this piece a session goes on, and the replies to the frames that end in it were appended, in order.
pub record HasAnswered (id : ℕ) (serving : Serving) (piece : List ℕ) (held : Held) (told : Subscription) (out : List ℕ) (later : Held) (after : Subscription) (grown : List ℕ) : Type 0 where
  pub frames : List (List ℕ)
  pub commands : List (Option Command)
  pub hears : Hears id piece frames commands held told later after
  pub replies : grown ≡ out ++ replies_of id serving commands

-- The replies to all of them but the last were; there is no room for that one, and a request for it was refused.
pub record LacksOne (id : ℕ) (serving : Serving) (piece : List ℕ) (held : Held) (told : Subscription) (out : List ℕ) (later : Held) (after : Subscription) (grown : List ℕ) (room : ℕ) (Refused : ℕ → Type 0) : Type 0 where
  pub frames : List (List ℕ)
  pub commands : List (Option Command)
  pub last : Option Command
  pub hears : Hears id piece frames (commands ++ last ∷ []) held told later after
  pub replies : grown ≡ out ++ replies_of id serving commands
  pub full : length grown + length (reply_of id serving last) ≤ room → ⊥
  pub refused : Refused (needed_of serving last)

-- There is room for the replies to whatever frames end in a beginning of this piece.
abbrev pub HasRoom : (id : ℕ) → Serving → (piece : List ℕ) → Held → Subscription → (out : List ℕ) → (room : ℕ) → Type 0
HasRoom id serving piece held told out room = (n : ℕ) (frames : List (List ℕ)) (commands : List (Option Command)) (later : Held) (after : Subscription) → n ≤ length piece
    → Hears id (take n piece) frames commands held told later after → length out + length (replies_of id serving commands) ≤ room
