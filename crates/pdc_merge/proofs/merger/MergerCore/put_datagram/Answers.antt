use Rattle.std.proofs.Common.{◌≡◌, subst, true}
use Rattle.pdc_core.specs.Fits.{fits_merger}
use Rattle.pdc_core.specs.Said.{said_fits_merger}
use Rattle.pdc_life.specs.Arrival.{BytesRefused, Data}
use Rattle.pdc_life.specs.CoreKind.{OfMerger, Says}
use Rattle.pdc_arrival.specs.Heard.{HearsForMerger, SaysData}
use Rattle.pdc_arrival.specs.Views.{arrival_view}
use Rattle.pdc_frame.specs.declared.frame.Frame.{Frame}
use Rattle.pdc_life.specs.declared.reading.Reading.{Reading}
use Rattle.pdc_merge.specs.Merger.{MergerView}
use Rattle.pdc_merge.proofs.Heard.{refused_said}
use Rattle.pdc_merge.proofs.merger.MergerCore.put_datagram.Goals as goal

pub arrive-requires : goal.arrive-requires
arrive-requires g c =
    subst (λ (m : MergerView). fits_merger m.settings c.args.stream (arrival_view c.arrival_from_node-arrival.result) ≡ true) c.self.view_is
    (said_fits_merger c.self.inside.settings c.args.stream c.args.bytes.now (arrival_view c.arrival_from_node-arrival.result)
    (c.arrival_from_node-arrival.ensures c.args.bytes.now c.hear_from_node.ensures.heard))

pub returns-in-Data-clause-hears : goal.returns-in-Data-clause-hears
returns-in-Data-clause-hears g c =
    let said : Says (OfMerger c.args.self.now.settings) c.args.stream c.args.bytes.now (Data c.in-Data.instant c.in-Data.quality c.in-Data.payload.now) =
    subst (λ (m : MergerView). Says (OfMerger m.settings) c.args.stream c.args.bytes.now (Data c.in-Data.instant c.in-Data.quality c.in-Data.payload.now)) c.self.view_is
    (subst (λ (h : Reading Frame). SaysData c.self.inside.settings c.args.stream c.args.bytes.now h) c.in-Data.is c.hear_from_node.ensures.data) in
    record {
      arrival = Data c.in-Data.instant c.in-Data.quality c.in-Data.payload.now;
      says = said;
      answer = c.arrive_data.ensures.answer;
      stands = λ h E before. c.arrive_data.ensures.stands h E c.args.bytes.now said before;
    }

pub returns-in-BytesRefused-clause-hears : goal.returns-in-BytesRefused-clause-hears
returns-in-BytesRefused-clause-hears g c =
    let said : Says (OfMerger c.args.self.now.settings) c.args.stream c.args.bytes.now (BytesRefused c.in-BytesRefused.refusal) =
    subst (λ (m : MergerView). Says (OfMerger m.settings) c.args.stream c.args.bytes.now (BytesRefused c.in-BytesRefused.refusal)) c.self.view_is
    (refused_said c.self.inside.settings c.args.stream c.args.bytes.now c.in-BytesRefused.refusal c.requires
    (subst (λ (h : Reading Frame). HearsForMerger c.self.inside.settings c.args.stream c.args.bytes.now h) c.in-BytesRefused.is c.hear_from_node.ensures.heard)) in
    record {
      arrival = BytesRefused c.in-BytesRefused.refusal;
      says = said;
      answer = λ h E before. c.arrive_refused.ensures.answer h E c.args.stream before;
      stands = λ h E before. c.arrive_refused.ensures.stands h E c.args.stream c.args.bytes.now said before;
    }

pub returns-in_default : goal.returns-in_default
returns-in_default g c =
    let said : Says (OfMerger c.args.self.now.settings) c.args.stream c.args.bytes.now (arrival_view c.arrival_from_node-arrival.result) =
    subst (λ (m : MergerView). Says (OfMerger m.settings) c.args.stream c.args.bytes.now (arrival_view c.arrival_from_node-arrival.result)) c.self.view_is
    (c.arrival_from_node-arrival.ensures c.args.bytes.now c.hear_from_node.ensures.heard) in
    record {
      hears = record {
        arrival = arrival_view c.arrival_from_node-arrival.result;
        says = said;
        answer = c.arrive.ensures.answer;
        stands = λ h E before. c.arrive.ensures.stands h E c.args.bytes.now said before;
      };
      counts = c.arrive.ensures.counts;
      popped = c.arrive.ensures.popped;
      settings = c.arrive.ensures.settings;
      memory = c.arrive.ensures.memory;
    }
