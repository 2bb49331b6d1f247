-- One turn with a consumer.
use Rattle.std.specs.Prelude.{◌≡◌, ◌⊎◌, ℕ, ◌<◌, ◌≤◌, List, [], ◌∷◌, length, take, Option, Some, None, Bool, true, false, not}
use Rattle.std.specs.Io.KnownBytes.{Appends, Consumes, IsAtEnd, Keeps}
use Rattle.pdc_cfg.specs.Config.{config_fields_of}
use Rattle.pdc_session.specs.Served.{IsFed}
use Rattle.pdc_session.specs.Session.{HasAnswered, SessionView}
use Rattle.pdc_session.specs.declared.fault.SessionFault.{SessionFault}
use Rattle.pdc_session.specs.declared.serving.Serving.{Serving}
use Rattle.pdc_server.specs.Given.{IsGiven}
use Rattle.pdc_server.specs.Stream.{IsLayoutWith, Stream}
use Rattle.pdc_server.specs.Header.{header_text}
use Rattle.pdc_server.specs.Remembering.{IsGivenOf, OfFound}
use Rattle.pdc_server.specs.Places.{replied, seen_after}
use Rattle.pdc_server.specs.declared.ended.Ended.{Ended}
use Rattle.pdc_server.specs.declared.ended.Ended.TheVariants.{EndOfStream, Session, Device, NoMemory, Closed}
use Rattle.pdc_server.specs.declared.limits.TheConstants.{MOST_HEARD, PIECE_LEN}
use Rattle.pdc_server.specs.declared.place.Place.{Place}
use Rattle.pdc_server.specs.declared.stamp.Stamp.{Stamp}

-- the stream that a consumer asks, and the second that it is answered in
pub record Dated : Type 0 where
  pub stream : Stream
  pub soc : ℕ

abbrev pub dated_at : Stream → ℕ → Dated
dated_at stream soc = record { stream = stream; soc = soc }

-- Replies are made with this text as the header, with the configuration of a layout frame of the stream, whose layout has this stamp, and
-- dated with the second.
abbrev pub IsServing : Dated → Stamp → (header : List ℕ) → Serving → Type 0
IsServing dated stamp header serving =
    (serving.header.now ≡ header) × (serving.soc ≡ dated.soc) × ∥ ((bytes : List ℕ) × IsLayoutWith dated.stream stamp bytes (config_fields_of serving.layout)) ∥₁

-- The session went on with this piece, and the replies to the commands that end in it were appended.
abbrev pub IsAnswered : Dated → Stamp → (header piece : List ℕ) (session later : SessionView) (out grown : List ℕ) → Type 0
IsAnswered dated stamp header piece session later out grown =
    (serving : Serving) × IsServing dated stamp header serving × HasAnswered session.id serving piece session.held session.told out later.held later.told grown

-- With this piece the session has ended by the fault, and the replies to the commands before it were appended.
abbrev pub HasFailed : Dated → Stamp → (header piece : List ℕ) (session later : SessionView) (out grown : List ℕ) → SessionFault → Type 0
HasFailed dated stamp header piece session later out grown fault =
    (serving : Serving) × IsServing dated stamp header serving × (later.ended ≡ Some fault) × IsFed serving piece session out later grown

-- Where no piece came nothing is appended, and the session stays. Of one that came at most 16 frames are heard, as no more end in it.
abbrev pub HasHeard : Dated → Option Stamp → (id : ℕ) (piece : List ℕ) (session later : SessionView) (out grown : List ℕ) → Type 0
HasHeard dated None id piece session later out grown = (piece ≡ []) × (grown ≡ out) × (later ≡ session)
HasHeard dated (Some stamp) id piece session later out grown = (answered : IsAnswered dated stamp (header_text id) piece session later out grown) × (length answered.2.frames ≤ MOST_HEARD)

-- Why a piece was not answered to its end: the session has ended; or there was no memory for the layout, and nothing was done.
abbrev pub IsUnheard : Ended → Dated → (id : ℕ) (piece : List ℕ) (session later : SessionView) (out grown : List ℕ) → Type 0
IsUnheard (Session fault) dated id piece session later out grown = (stamp : Stamp) × HasFailed dated stamp (header_text id) piece session later out grown fault
IsUnheard NoMemory dated id piece session later out grown = (piece ≡ [] → ⊥) × (grown ≡ out) × (later ≡ session)
IsUnheard _ dated id piece session later out grown = ⊥

-- where a consumer stands: its session, its place in the stream, and whether bytes came when it was last heard
pub record Standing : Type 0 where
  pub session : SessionView
  pub place : Place
  pub heard : Bool

-- whether bytes came
abbrev pub has_bytes : List ℕ → Bool
has_bytes [] = false
has_bytes (byte ∷ bytes) = true

-- where a consumer stands in the stream once it has these replies, made of the layout with a stamp
abbrev pub place_after : Place → Option Stamp → (replies : List ℕ) → Place
place_after place stamp replies = record { got = place.got; seen = seen_after place.seen (replied stamp replies) }

-- All that is to be written once a piece came: the replies, and behind them, while data is on, frames above the instant that the consumer
-- got, of the layout that it has, or the frame of the layout that it is to have before any other.
pub record IsWhole (dated : Dated) (id : ℕ) (piece : List ℕ) (before later : Standing) (made : List ℕ) : Type 0 where
  pub stamp : Option Stamp
  pub replies : List ℕ
  pub heard : HasHeard dated stamp id piece before.session later.session [] replies
  pub off : later.session.told.on ≡ false → (later.place ≡ place_after before.place stamp replies) × (made ≡ replies)
  pub on : later.session.told.on ≡ true → IsGiven dated.stream (place_after before.place stamp replies) replies later.place made
  pub given : later.session.told.on ≡ true → OfFound (λ memory. IsGivenOf memory (place_after before.place stamp replies) (not before.session.told.on) replies later.place made)

-- The replies alone, since there was no memory for the frames.
abbrev pub LacksFrames : Dated → (id : ℕ) (piece : List ℕ) (before later : Standing) (made : List ℕ) → Type 0
LacksFrames dated id piece before later made = ((stamp : Option Stamp) × HasHeard dated stamp id piece before.session later.session [] made) × (later.session.told.on ≡ true)

-- What is to be written, all of it or as much as there is where the session is to end.
abbrev pub IsMade : Option Ended → Dated → (id : ℕ) (piece : List ℕ) (before later : Standing) (made : List ℕ) → Type 0
IsMade None dated id piece before later made = IsWhole dated id piece before later made
IsMade (Some NoMemory) dated id piece before later made = (later.place ≡ before.place)
    × (IsUnheard NoMemory dated id piece before.session later.session [] made ⊎ LacksFrames dated id piece before later made)
IsMade (Some ended) dated id piece before later made = (later.place ≡ before.place) × IsUnheard ended dated id piece before.session later.session [] made

-- A piece was read, perhaps none, of at most 256 bytes: what came behind it is left in the connection for the next turn. Whether bytes came is
-- noted, and this is what is to be written.
pub record HasMade {S : Type 0} (remaining : S → Option (List ℕ)) (ended : Option Ended) (dated : Dated) (id : ℕ) (before later : Standing) (line : S) : Type 0 where
  pub read : S
  pub piece : List ℕ
  pub made : List ℕ
  pub few : length piece ≤ PIECE_LEN
  pub came : Consumes (remaining line) (remaining read) piece
  pub noted : later.heard ≡ has_bytes piece
  pub is_made : IsMade ended dated id piece before later made

-- and it was written
abbrev pub HasWritten : {S : Type 0} (remaining contents : S → Option (List ℕ)) → Option Ended → Dated → (id : ℕ) (before later : Standing) (line now : S) → Type 0
HasWritten remaining contents ended dated id before later line now =
    (m : HasMade remaining ended dated id before later line) × Appends (contents m.read) (contents now) m.made

-- What a turn does that goes on.
abbrev pub HasTurned : {S : Type 0} (remaining contents : S → Option (List ℕ)) → Dated → (id : ℕ) (before later : Standing) (line now : S) → Type 0
HasTurned remaining contents dated id before later line now = HasWritten remaining contents None dated id before later line now

-- What a turn did that ended so. Where nothing more is to come, nothing came, and the consumer stands where it stood. A device fault is
-- one of a read, by which nothing came, or one of a write. The concentrator has ended before all was written that was to be. A fault of
-- the session, and a want of memory, are told once the replies before them are written.
abbrev pub HasEnded : {S : Type 0} (remaining contents : S → Option (List ℕ)) → Dated → (id : ℕ) (before later : Standing) (line now : S) → Ended → Type 0
HasEnded remaining contents dated id before later line now EndOfStream =
    (later ≡ before) × IsAtEnd (remaining now) × Consumes (remaining line) (remaining now) []
HasEnded remaining contents dated id before later line now Device =
    ((later ≡ before) × Keeps (remaining line) (remaining now)) ⊎ ((ended : Option Ended) × HasMade remaining ended dated id before later line)
HasEnded remaining contents dated id before later line now Closed =
    (ended : Option Ended) × (m : HasMade remaining ended dated id before later line) × (n : ℕ) × (n < length m.made) × Appends (contents m.read) (contents now) (take n m.made)
HasEnded remaining contents dated id before later line now ended = HasWritten remaining contents (Some ended) dated id before later line now

-- Why bytes were not written: the connection failed; or the concentrator has ended, and some of the first were written.
abbrev pub IsUnwritten : Ended → (contents now : Option (List ℕ)) (bytes : List ℕ) → Type 0
IsUnwritten Device contents now bytes = Unit {0}
IsUnwritten Closed contents now bytes = (n : ℕ) × (n < length bytes) × Appends contents now (take n bytes)
IsUnwritten _ contents now bytes = ⊥

-- Why no piece came: there is none, or the connection failed.
abbrev pub IsUnread : Ended → (remaining now : Option (List ℕ)) → Type 0
IsUnread EndOfStream remaining now = IsAtEnd now × Consumes remaining now []
IsUnread Device remaining now = Keeps remaining now
IsUnread _ remaining now = ⊥
