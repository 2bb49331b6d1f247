-- What the events that are handed to a world ask of it, and which cause a fault tells.
use Rattle.std.specs.Prelude.{Option, None, Some}
use Rattle.pdc_history.specs.Asked.{Asked, Cause, OtherBody, OtherSection, Foreign}
use Rattle.pdc_history.specs.Asked as asked
use Rattle.pdc_history.specs.Event.{Act, Store, OfPublish, OfStart, OfTick, Publish, Stop, StopDuring, TickAt}
use Rattle.pdc_history.specs.World.{Who, A, B, M}
use Rattle.pdc_history.specs.declared.act.Act.{Act as ActData}
use Rattle.pdc_history.specs.declared.act.Act.TheVariants as act
use Rattle.pdc_history.specs.declared.act.StopAt.TheVariants as at
use Rattle.pdc_history.specs.declared.act.Storing.{Storing}
use Rattle.pdc_history.specs.declared.act.Storing.TheVariants as storing
use Rattle.pdc_history.specs.declared.event.Event.{Event}
use Rattle.pdc_history.specs.declared.event.Event.TheVariants as event
use Rattle.pdc_history.specs.declared.event_fault.Fault.{Fault}
use Rattle.pdc_history.specs.declared.event_fault.Fault.TheVariants as fault
use Rattle.pdc_history.specs.declared.event_fault.Premise.TheVariants.{OneBody, OneSection, Genuine, OneTable}
use Rattle.pdc_history.specs.declared.who.Who.{Who as WhoData}
use Rattle.pdc_history.specs.declared.who.Who.TheVariants as who

-- which core is meant
abbrev pub who_of : WhoData → Who
who_of who.A = A
who_of who.B = B
who_of who.M = M

-- which store a stop falls into
abbrev pub store_of : Storing → Store
store_of storing.Publish = OfPublish
store_of storing.Tick = OfTick
store_of storing.Start = OfStart

-- what a core does
abbrev pub act_of : ActData → Act
act_of (act.Tick now) = TickAt now
act_of act.Publish = Publish
act_of (act.Stop at.Between) = Stop
act_of (act.Stop (at.In storing landed)) = StopDuring (store_of storing) landed

-- what is asked
abbrev pub asked_of : Event → Asked
asked_of (event.Send bytes) = asked.Send bytes.now
asked_of (event.To whom number) = asked.To (who_of whom) number
asked_of (event.Junk whom bytes) = asked.Junk (who_of whom) bytes.now
asked_of (event.Do whom act) = asked.Do (who_of whom) (act_of act)

-- the fault that tells a cause
abbrev pub fault_of : Cause → Fault
fault_of OtherBody = fault.PremiseBroken OneBody
fault_of OtherSection = fault.PremiseBroken OneSection
fault_of Foreign = fault.PremiseBroken Genuine
fault_of asked.NoSuchFrame = fault.NoSuchFrame
fault_of asked.StartsUsedUp = fault.StartsUsedUp

-- the cause that a fault tells; want of memory, and settings that do not fit together, have none
abbrev pub cause_of : Fault → Option Cause
cause_of (fault.PremiseBroken OneBody) = Some OtherBody
cause_of (fault.PremiseBroken OneSection) = Some OtherSection
cause_of (fault.PremiseBroken Genuine) = Some Foreign
cause_of (fault.PremiseBroken OneTable) = None
cause_of fault.NoSuchFrame = Some asked.NoSuchFrame
cause_of fault.StartsUsedUp = Some asked.StartsUsedUp
cause_of fault.NoMemory = None
