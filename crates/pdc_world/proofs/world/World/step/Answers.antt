-- Where there is a cause, its fault is told.
use Rattle.std.proofs.Common.{◌≡◌, ap, Err, IfErr, IfOk, IsErrOf, List, Ok, Result}
use Rattle.pdc_world.proofs.Names.{Asked, asked_of, Cause, CausesAreOne, Fault, fault_of, FaultsMayNotHappen, Foreign, Genuine, Happened, IsAnswered, IsFault, IsWhy, OneBody, OneSection, OneTable, OtherBody, OtherSection, Reply, World, WorldView}
use Rattle.pdc_history.specs.declared.event_fault.Fault.TheVariants as fault
use Rattle.pdc_history.specs.Asked as asked
use Rattle.pdc_world.proofs.world.World.step.Goals as goal

told_fault : CausesAreOne → (W : World) (H : List Happened) (what : Asked) (cause : Cause) (f : Fault) → IsWhy W H what f → IsFault W H what cause → f ≡ fault_of cause
told_fault one W H what cause (fault.PremiseBroken OneBody) why it = ap fault_of (one W H what OtherBody cause why it)
told_fault one W H what cause (fault.PremiseBroken OneSection) why it = ap fault_of (one W H what OtherSection cause why it)
told_fault one W H what cause (fault.PremiseBroken Genuine) why it = ap fault_of (one W H what Foreign cause why it)
told_fault one W H what cause (fault.PremiseBroken OneTable) why it = absurd why
told_fault one W H what cause fault.NoSuchFrame why it = ap fault_of (one W H what asked.NoSuchFrame cause why it)
told_fault one W H what cause fault.StartsUsedUp why it = ap fault_of (one W H what asked.StartsUsedUp cause why it)
told_fault one W H what cause fault.NoMemory why it = absurd (why cause it)

cause_told : FaultsMayNotHappen → CausesAreOne → (W : World) (H : List Happened) (what : Asked) (cause : Cause) (new : WorldView) (result : Result Reply Fault)
    → IfOk result (λ (reply : Reply). IsAnswered W H what reply new) → IfErr result (IsWhy W H what) → IsFault W H what cause → IsErrOf result (fault_of cause)
cause_told apart one W H what cause new (Ok reply) made why it = absurd (apart W H what cause made.step.event it made.step.read made.step.may)
cause_told apart one W H what cause new (Err f) made why it = ap Err (told_fault one W H what cause f why it)

pub returns-clause-told : goal.returns-clause-told
returns-clause-told g c =
    λ W H cause holds it.
    cause_told c.asked_is_event_or_fault.ensures.apart c.asked_is_event_or_fault.ensures.one_cause W H (asked_of c.args.event.now) cause _ c.act_for.result
    (c.act_for.ensures.made W H holds) (c.act_for.ensures.why W H holds) it
