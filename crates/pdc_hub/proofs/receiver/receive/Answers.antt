use Rattle.std.proofs.Common.{rules, ◌≡◌, ◌+◌, ℕ, List, ◌∷◌, ◌++◌, [], Some, None, refl, subst, take}
use Rattle.pdc_ports.specs.Heard.{Heard, Gave, Idled, Ended, Failed, GaveUp}
use Rattle.pdc_hub.specs.declared.fault.HubFault.TheVariants.{SourceFault, Stuck}
use Rattle.pdc_hub.specs.Counted.{configured_by, refused_by, taken_by}
use Rattle.pdc_hub.specs.Received.{WasBrought}
use Rattle.pdc_hub.proofs.Receiving.{left_whole, received, receiving_begins, receiving_idle, receiving_on}
use Rattle.pdc_hub.proofs.receiver.receive.Goals as goal

pub loop-init : goal.loop-init
loop-init g c = (
  search rules,
  search rules,
  search rules,
  search rules,
  search rules,
  search rules,
  receiving_begins g.S.Source.told c.args.source.now g.C.Core.rules g.N.Naming.given c.args.inlet.stream c.args.inlet.shares.front c.args.inlet.shares.configured.amount (search rules),
)

pub loop-preserved-in-Ok : goal.loop-preserved-in-Ok
loop-preserved-in-Ok g c =
    let bytes : List ℕ = take c.in-Datagram.len c.next-in-loop.new.buffer in
    let same : c.deref.result.now ≡ c.next-in-loop.new.buffer = left_whole _ _ _ _ c.deref.ensures.value (search rules) in
    let answer : WasBrought g.C.Core.rules g.N.Naming.given c.args.inlet.stream bytes c.loop.shares.front c.hand_in.new.shares.front c.in-Ok.answer.answer =
    subst (λ (buffer : List ℕ). WasBrought g.C.Core.rules g.N.Naming.given c.args.inlet.stream (take c.in-Datagram.len buffer) c.loop.shares.front c.hand_in.new.shares.front c.in-Ok.answer.answer) same c.in-Ok.ensures.answer in
    let counted = c.in-Ok.ensures.counted in
    let more_taken : c.hand_in.new.shares.taken.amount ≡ c.loop.shares.taken.amount + taken_by c.in-Ok.answer.answer = counted.0 in
    let more_refused : c.hand_in.new.shares.refused.amount ≡ c.loop.shares.refused.amount + refused_by c.in-Ok.answer.answer = counted.1 in
    let taken : c.match-answer.taken ≡ c.loop.taken + taken_by c.in-Ok.answer.answer = search (rules, c.match-answer.branch) in
    let refused : c.match-answer.refused ≡ c.loop.refused + refused_by c.in-Ok.answer.answer = search (rules, c.match-answer.branch) in
    let configured : c.hand_in.new.shares.configured.amount ≡ c.loop.shares.configured.amount + configured_by c.in-Ok.answer.answer = counted.2 in
    let told : (hs : List Heard) → g.S.Source.told c.loop.source hs → g.S.Source.told c.tell_whole.new.source (hs ++ Gave bytes ∷ []) = λ hs t. c.tell_whole.ensures.tells _ (c.answered.ensures.tells _ (c.in-Datagram.ensures.tells hs t)) in (
      search rules,
      search rules,
      search rules,
      search rules,
      search rules,
      search rules,
      receiving_on g.S.Source.told c.args.source.now c.loop.source c.tell_whole.new.source g.C.Core.rules g.N.Naming.given c.args.inlet.stream c.loop.shares.front c.hand_in.new.shares.front c.loop.taken c.loop.refused c.loop.shares.configured.amount c.match-answer.taken c.match-answer.refused c.hand_in.new.shares.configured.amount bytes c.in-Ok.answer.answer
          c.loop.invariant.6 told answer taken refused configured,
    )

pub returns-in-Err-clause-received : goal.returns-in-Err-clause-received
returns-in-Err-clause-received g c =
    let h = received g.S.Source.told c.args.source.now c.loop.source c.answered-in-Err.new.self _ c.loop.taken c.loop.refused c.loop.shares.configured.amount (Gave (take c.in-Datagram.len c.next-in-loop.new.buffer)) (Some c.in-Err.fault)
    c.loop.invariant.6 (λ hs t. c.answered-in-Err.ensures.tells _ (c.in-Datagram.ensures.tells hs t)) c.in-Err.ensures.causes in
    rw (c.handed_back.ensures.0, c.handed_back.ensures.1, c.handed_back.ensures.2, c.handed_back.ensures.4, c.in-Err.ensures.err.0.2, c.in-Err.ensures.err.1) h

pub loop-preserved : goal.loop-preserved
loop-preserved g c = (
  search rules,
  search rules,
  search rules,
  search rules,
  search rules,
  search rules,
  receiving_idle g.S.Source.told c.args.source.now c.loop.source c.next-in-loop.new.self _ c.loop.taken c.loop.refused c.loop.shares.configured.amount c.loop.invariant.6 c.in-Idle.ensures.tells,
)

pub returns-in-Some-closed-clause-received : goal.returns-in-Some-closed-clause-received
returns-in-Some-closed-clause-received g c =
    let h = received g.S.Source.told c.args.source.now c.loop.source c.next-in-loop.new.self _ c.loop.taken c.loop.refused c.loop.shares.configured.amount Idled None c.loop.invariant.6 c.in-Idle.ensures.tells refl in
    rw (c.handed_back-in-Some-closed.ensures.0, c.handed_back-in-Some-closed.ensures.1, c.handed_back-in-Some-closed.ensures.2, c.handed_back-in-Some-closed.ensures.3, c.handed_back-in-Some-closed.ensures.4) h

pub returns-in-End-clause-received : goal.returns-in-End-clause-received
returns-in-End-clause-received g c =
    let h = received g.S.Source.told c.args.source.now c.loop.source c.next-in-loop.new.self _ c.loop.taken c.loop.refused c.loop.shares.configured.amount Ended None c.loop.invariant.6 c.in-End.ensures.tells tt in
    rw (c.handed_back-in-End.ensures.0, c.handed_back-in-End.ensures.1, c.handed_back-in-End.ensures.2, c.handed_back-in-End.ensures.4) h

pub returns-in-Fault-clause-received : goal.returns-in-Fault-clause-received
returns-in-Fault-clause-received g c =
    let h = received g.S.Source.told c.args.source.now c.loop.source c.next-in-loop.new.self _ c.loop.taken c.loop.refused c.loop.shares.configured.amount Failed (Some SourceFault) c.loop.invariant.6 c.in-Fault.ensures.tells tt in
    rw (c.handed_back-in-Fault.ensures.0, c.handed_back-in-Fault.ensures.1, c.handed_back-in-Fault.ensures.2, c.handed_back-in-Fault.ensures.4) h

pub returns-in-Stuck-clause-received : goal.returns-in-Stuck-clause-received
returns-in-Stuck-clause-received g c =
    let h = received g.S.Source.told c.args.source.now c.loop.source c.next-in-loop.new.self _ c.loop.taken c.loop.refused c.loop.shares.configured.amount GaveUp (Some Stuck) c.loop.invariant.6 c.in-Stuck.ensures.tells tt in
    rw (c.handed_back-in-Stuck.ensures.0, c.handed_back-in-Stuck.ensures.1, c.handed_back-in-Stuck.ensures.2, c.handed_back-in-Stuck.ensures.4) h
