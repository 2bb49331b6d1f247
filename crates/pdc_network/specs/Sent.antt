-- What calls of the system that send a datagram were handed, and what they answered.
use Rattle.std.specs.Prelude.{◌≡◌, refl, ℕ, ℤ, pos, ◌==◌, if◌then◌else◌, List, [], ◌∷◌, length, map, ⊤, Option, None, Some, Result, Ok, Err}
use Rattle.std.specs.List.{All}
use Rattle.std.specs.declared.net.socket_addr.SocketAddr.{SocketAddr}
use Rattle.std.specs.IoError.{raw_os_error}
use Rattle.std.specs.declared.io.Error.{Error}

-- One call: where to, which bytes, and what it answered: how many of them the system took, or why it took none.
pub record Sent : Type 0 where
  pub to : SocketAddr
  pub bytes : List ℕ
  pub answer : Result ℕ Error

-- One frame that was handed on: Ok where it went out whole, and else the number of the system's reason.
pub record Hand : Type 0 where
  pub frame : List ℕ
  pub outcome : Result ⊤ ℤ

-- The number of the system's reason, and 0 where it gave none.
abbrev pub reason_of : Option ℤ → ℤ
reason_of (Some number) = number
reason_of None = pos 0

abbrev pub outcome_of : List ℕ → Result ℕ Error → Result ⊤ ℤ
outcome_of frame (Ok len) = if len == length frame then Ok tt else Err (pos 0)
outcome_of frame (Err error) = Err (reason_of (raw_os_error error))

pub of_all : outcome_of (7 ∷ 8 ∷ []) (Ok 2) ≡ Ok tt
of_all = refl

pub of_some : outcome_of (7 ∷ 8 ∷ []) (Ok 1) ≡ Err (pos 0)
of_some = refl

-- a call, as what was handed on
abbrev pub hand_of : Sent → Hand
hand_of sent = record { frame = sent.bytes; outcome = outcome_of sent.bytes sent.answer }

-- From the one state of a socket to the other its calls were these, in order, each with what came of it, and all to this place.
pub record HasSent {S : Type 0} (sent : S → S → List Sent → Type 0) (to : SocketAddr) (before now : S) (hands : List Hand) : Type 0 where
  pub calls : List Sent
  pub are_all : sent before now calls
  pub there : All (λ call. call.to ≡ to) calls
  pub same : map hand_of calls ≡ hands

-- the frame, where it went out whole
abbrev pub if_whole : List ℕ → Result ⊤ ℤ → List (List ℕ)
if_whole frame (Ok _) = frame ∷ []
if_whole frame (Err _) = []

abbrev pub whole_of : Hand → List (List ℕ)
whole_of hand = if_whole hand.frame hand.outcome
