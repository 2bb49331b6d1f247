use Rattle.pdc_startup.specs.Begun.{begun_mark}
use Rattle.pdc_startup.specs.pdc_sockets.Concentrator.{output_of, service_of}
use Rattle.pdc_service.specs.Ended.{kind_of}
use Rattle.pdc_service.specs.Handed.{TicksBy}
use Rattle.pdc_service.proofs.Handing.{nothing_handed, shows_none}
use Rattle.pdc_service.proofs.serving.not_begun.Goals as goal

pub returns : goal.returns
returns g c concentrator =
    let o = c.args.opened in
    let rate = (output_of concentrator).rate in record {
      totals = tt;
      each = tt;
      faults = tt;
      handed = nothing_handed (kind_of concentrator) (service_of concentrator).layout_every (g.M.Mark.stored (begun_mark o.mark)) g.S.Source.told o.sources.items (TicksBy g.T.Timepiece.showed o.time rate) g.K.Sink.took o.sink
          (shows_none g.T.Timepiece.showed o.time rate) (g.K.Sink.nothing o.sink);
    }
