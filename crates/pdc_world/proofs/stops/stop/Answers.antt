use Rattle.std.proofs.Common.{[], refl, subst}
use Rattle.pdc_world.proofs.Names.{mark_in, who_of}
use Rattle.pdc_world.proofs.{Ended.{why_stopped}, Made.{ended_made}}
use Rattle.pdc_world.proofs.stops.stop.Goals as goal

pub returns-in-Ok-clause-made : goal.returns-in-Ok-clause-made
returns-in-Ok-clause-made g c =
    λ W H part.
    ended_made W H c.args.who c.args.at _ _ _ c.begun.result g.S.Mark.stored g.S.Store.stops_as (mark_in c.args.station.now.publisher) (mark_in c.stop.new.self.publisher) part refl refl
    c.in-Ok.ensures.stops c.begun.ensures.fits
    (subst (λ h. g.C.Core.stands_for c.stop.new.self.core h []) ((g.met.C.Plays.is_of_kind (g.C.Core.settings_of c.args.station.now.core)).same_given _ _ _) c.in-Ok.ensures.stands) c.begun.ensures.value

pub returns-in-Err-clause-why : goal.returns-in-Err-clause-why
returns-in-Err-clause-why g c =
    λ W H part.
    why_stopped c.asked_is_event_or_fault.ensures.apart W H (who_of c.args.who) c.args.at c.in-Err.fault c.fault_of.result (g.S.Mark.stored (mark_in c.args.station.now.publisher)) part.come.mark
    c.in-Err.ensures.used_up c.fault_of.ensures
