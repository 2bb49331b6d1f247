use Rattle.std.proofs.Common.{◌≡◌, ℕ, List, subst}
use Rattle.pdc_life.specs.Arrival.{Arrival, BytesRefused, Data}
use Rattle.pdc_life.specs.CoreKind.{OfNode, Says}
use Rattle.pdc_life.specs.Views.{arrival_view as reading_view}
use Rattle.pdc_life.specs.declared.reading.Reading.{Reading}
use Rattle.pdc_cfg.specs.declared.section.SectionView.{SectionView}
use Rattle.pdc_node.specs.Node.{NodeView}
use Rattle.pdc_node.proofs.node.NodeCore.put_datagram.Goals as goal

-- what was read by the settings of one view was read by those of another that is the same
read_by : (n m : NodeView) (p : ℕ) (bytes : List ℕ) (arrival : Arrival) → n ≡ m → Says (OfNode n.settings) p bytes arrival → Says (OfNode m.settings) p bytes arrival
read_by n m p bytes arrival e reads = subst (λ (v : NodeView). Says (OfNode v.settings) p bytes arrival) e reads

pub returns-in-Data-clause-hears : goal.returns-in-Data-clause-hears
returns-in-Data-clause-hears g c =
    let said : Says (OfNode c.args.self.now.settings) c.args.stream c.args.bytes.now (Data c.in-Data.instant c.in-Data.quality c.in-Data.payload.now) =
    subst (λ (r : Reading SectionView). Says (OfNode c.args.self.now.settings) c.args.stream c.args.bytes.now (reading_view c.args.stream r)) c.in-Data.is (read_by _ _ c.args.stream c.args.bytes.now (reading_view c.args.stream c.hear_from_pmu.result) c.self.view_is c.hear_from_pmu.ensures) in
    record {
      arrival = Data c.in-Data.instant c.in-Data.quality c.in-Data.payload.now;
      says = said;
      answer = c.arrive_data.ensures.answer;
      stands = λ h E before. c.arrive_data.ensures.stands h E c.args.bytes.now said before;
    }

pub returns-in-BytesRefused-clause-hears : goal.returns-in-BytesRefused-clause-hears
returns-in-BytesRefused-clause-hears g c =
    let said : Says (OfNode c.args.self.now.settings) c.args.stream c.args.bytes.now (BytesRefused c.in-BytesRefused.refusal) =
    subst (λ (r : Reading SectionView). Says (OfNode c.args.self.now.settings) c.args.stream c.args.bytes.now (reading_view c.args.stream r)) c.in-BytesRefused.is (read_by _ _ c.args.stream c.args.bytes.now (reading_view c.args.stream c.hear_from_pmu.result) c.self.view_is c.hear_from_pmu.ensures) in
    record {
      arrival = BytesRefused c.in-BytesRefused.refusal;
      says = said;
      answer = λ h E before. c.arrive_refused.ensures.answer h E c.args.stream before;
      stands = λ h E before. c.arrive_refused.ensures.stands h E c.args.stream c.args.bytes.now said before;
    }

pub returns-in_default-clause-hears : goal.returns-in_default-clause-hears
returns-in_default-clause-hears g c =
    let said : Says (OfNode c.args.self.now.settings) c.args.stream c.args.bytes.now (reading_view c.args.stream c.hear_from_pmu.result) =
    read_by _ _ c.args.stream c.args.bytes.now (reading_view c.args.stream c.hear_from_pmu.result) c.self.view_is c.hear_from_pmu.ensures in
    record {
      arrival = reading_view c.args.stream c.hear_from_pmu.result;
      says = said;
      answer = c.arrive_read.ensures.answer;
      stands = λ h E before. c.arrive_read.ensures.stands h E c.args.bytes.now said before;
    }
