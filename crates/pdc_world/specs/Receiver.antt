-- Which core an event is for.
use Rattle.pdc_history.specs.World.{A, Who}
use Rattle.pdc_history.specs.{declared.event.Event.{Event}, Handed.{who_of}}
use Rattle.pdc_history.specs.declared.event.Event.TheVariants as event

-- the core that the event is for; that a PMU sends is for none, and concerns none more than A
abbrev pub core_in : Event → Who
core_in (event.Send bytes) = A
core_in (event.To who number) = who_of who
core_in (event.Junk who bytes) = who_of who
core_in (event.Do who act) = who_of who
