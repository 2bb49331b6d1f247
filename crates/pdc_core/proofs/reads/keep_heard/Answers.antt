use Rattle.std.proofs.Common.{subst, sym}
use Rattle.pdc_align.specs.pdc_arrival.Views.{arrival_view}
use Rattle.pdc_align.specs.pdc_life.Arrival.{Arrival}
use Rattle.pdc_align.specs.pdc_life.CoreKind.{OfMerger, Says}
use Rattle.pdc_core.proofs.Refusing.{on_err, on_ok}
use Rattle.pdc_core.proofs.reads.keep_heard.Goals as goal

pub returns-clause-says : goal.returns-clause-says
returns-clause-says c bytes h =
    on_ok c.set.result (λ same. subst (λ (a : Arrival). Says (OfMerger c.args.settings.now) c.args.stream bytes a) (sym same) (c.arrival_from_node-arrival.ensures bytes h)) c.set.ensures.same

pub returns-clause-refused : goal.returns-clause-refused
returns-clause-refused c bytes h =
    on_err c.set.result (λ r. (arrival_view c.arrival_from_node-arrival.result, c.arrival_from_node-arrival.ensures bytes h, r)) c.set.ensures.refused

pub returns-clause-in_place : goal.returns-clause-in_place
returns-clause-in_place c bytes h =
    (arrival_view c.arrival_from_node-arrival.result, c.arrival_from_node-arrival.ensures bytes h, c.set.ensures.in_place)
