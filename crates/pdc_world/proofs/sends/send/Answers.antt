-- A refused send, as a fault of the world.
use Rattle.std.proofs.Common.{◌&&◌, ◌≡◌, ap, Bool, Err, List, nat_le, nat_lt, refl, subst, sym, true, ℕ}
use Rattle.pdc_history.specs.declared.event_fault.Fault.TheVariants.{NoMemory}
use Rattle.pdc_world.proofs.Names.{and_parts, both_ways, Fault, fault_of_send, FaultsMayNotHappen, Happened, HasCause, IsSentIn, IsWhy, MayBeSent, NoMemory, SendFault, SentView, World}
use Rattle.pdc_history.specs.declared.event_fault.Fault.TheVariants as fault
use Rattle.pdc_history.specs.Asked as asked
use Rattle.pdc_history.specs.Event as events
use Rattle.pdc_world.proofs.sends.send.Goals as goal

why_send : FaultsMayNotHappen → (W : World) (H : List Happened) (v : SentView) (bytes : List ℕ) (refusal : SendFault) → IsSentIn W H v → HasCause v bytes refusal
    → (refusal ≡ NoMemory → MayBeSent v bytes) → IsWhy W H (asked.Send bytes) (fault_of_send refusal)
why_send apart W H v bytes NoMemory sent cause may = λ other it. apart W H (asked.Send bytes) other (events.Send bytes) it refl (may refl W H sent)
why_send apart W H v bytes refusal sent cause may = cause W H sent

-- where there is room, it is not for want of memory
room_sent : (sent : Bool) (len capacity most place : ℕ) → (sent && nat_lt len capacity && nat_le most place) ≡ true → sent ≡ true
room_sent sent len capacity most place e = (and_parts sent (nat_lt len capacity) (and_parts (sent && nat_lt len capacity) (nat_le most place) e).0).0

room_send : (v : SentView) (bytes : List ℕ) (refusal : SendFault) (told : Fault) → HasCause v bytes refusal → v.has_room ≡ true → told ≡ fault_of_send refusal
    → told ≡ fault.NoMemory → ⊥
room_send v bytes NoMemory told cause room is wanting = both_ways v.has_room cause room
room_send v bytes refusal told cause room is wanting = cc

pub returns-in-Err-clause-why : goal.returns-in-Err-clause-why
returns-in-Err-clause-why c =
    λ W H keeps. subst (λ (f : Fault). IsWhy W H (asked.Send c.args.bytes.now) f) (sym c.fault_of.ensures)
    (why_send c.asked_is_event_or_fault.ensures.apart W H c.args.ledger.now.sent c.args.bytes.now c.in-Err.fault (record { frames = sym keeps.frames; settings = sym keeps.table }) c.in-Err.ensures.cause (λ e. c.in-Err.ensures.memory (ap Err e)))

pub returns-in-Err-clause-room : goal.returns-in-Err-clause-room
returns-in-Err-clause-room c =
    λ room wanting.
    let told : c.fault_of.result ≡ NoMemory = cc in
    room_send c.args.ledger.now.sent c.args.bytes.now c.in-Err.fault c.fault_of.result c.in-Err.ensures.cause (room_sent _ _ _ _ _ room) c.fault_of.ensures told
