use Rattle.std.proofs.Common.{[], ◌∷◌, refl}
use Rattle.std.proofs.lemmas.Result.{err_from_is_err_and}
use Rattle.pdc_startup.specs.declared.described.Step.TheVariants.{BeginRecord, OpenListener, OpenMetrics, OpenSink}
use Rattle.pdc_service.proofs.Handing.{handed_by, of_outputs}
use Rattle.pdc_service.proofs.Steps.{goes_on, runs, stops}
use Rattle.pdc_service.proofs.service.serve_linked.Goals as goal

pub returns-in_err-outputs-clause-opened : goal.returns-in_err-outputs-clause-opened
returns-in_err-outputs-clause-opened g c =
    let tried = g.M.Machine.tried in
    let d = c.args.described.now in
    let p = err_from_is_err_and c.from_residual.result c.from_residual.ensures.1 in
    rw (p.1, p.2)
    (stops tried d OpenSink (OpenListener ∷ OpenMetrics ∷ BeginRecord c.args.files.now ∷ []) c.in_err-outputs.field-0.0 c.in_err-outputs.ensures.told c.in_err-outputs.ensures.faults)

pub returns-in_err-listener-clause-opened : goal.returns-in_err-listener-clause-opened
returns-in_err-listener-clause-opened g c =
    let tried = g.M.Machine.tried in
    let d = c.args.described.now in
    let p = err_from_is_err_and c.from_residual-in_err-listener.result c.from_residual-in_err-listener.ensures.1 in
    rw (p.1, p.2)
    (goes_on tried d OpenSink c.in_ok-outputs.ensures.told (stops tried d OpenListener (OpenMetrics ∷ BeginRecord c.args.files.now ∷ []) c.in_err-listener.field-0.0 c.in_err-listener.ensures.told c.in_err-listener.ensures.faults))

pub returns-in_err-metrics-clause-opened : goal.returns-in_err-metrics-clause-opened
returns-in_err-metrics-clause-opened g c =
    let tried = g.M.Machine.tried in
    let d = c.args.described.now in
    let p = err_from_is_err_and c.from_residual-in_err-metrics.result c.from_residual-in_err-metrics.ensures.1 in
    rw (p.1, p.2)
    (goes_on tried d OpenSink c.in_ok-outputs.ensures.told (goes_on tried d OpenListener c.in_ok-listener.ensures.told (stops tried d OpenMetrics (BeginRecord c.args.files.now ∷ []) c.in_err-metrics.field-0.0 c.in_err-metrics.ensures.told c.in_err-metrics.ensures.faults)))

pub returns-in_err-record-clause-opened : goal.returns-in_err-record-clause-opened
returns-in_err-record-clause-opened g c =
    let tried = g.M.Machine.tried in
    let d = c.args.described.now in
    let p = err_from_is_err_and c.from_residual-in_err-record.result c.from_residual-in_err-record.ensures.1 in
    rw (p.1, p.2)
    (goes_on tried d OpenSink c.in_ok-outputs.ensures.told (goes_on tried d OpenListener c.in_ok-listener.ensures.told (goes_on tried d OpenMetrics c.in_ok-metrics.ensures.told (stops tried d (BeginRecord c.args.files.now) ([]) c.in_err-record.field-0.0 c.in_err-record.ensures.told c.in_err-record.ensures.faults))))

pub returns-clause-opened : goal.returns-clause-opened
returns-clause-opened g c =
    let tried = g.M.Machine.tried in
    let d = c.args.described.now in
    (goes_on tried d OpenSink c.in_ok-outputs.ensures.told
    (goes_on tried d OpenListener c.in_ok-listener.ensures.told
    (goes_on tried d OpenMetrics c.in_ok-metrics.ensures.told
    (goes_on tried d (BeginRecord c.args.files.now) c.in_ok-record.ensures.told
    (runs tried _ d _ c.run_serving.ensures.faults record {
      sources = c.args.linked.sources.items;
      silent = c.requires.silent;
      sink = c.in_ok-outputs.outputs;
      opened = c.in_ok-outputs.ensures.fresh;
      handed = handed_by c.new.ensures refl refl (of_outputs (λ s. s.outputs) c.run_serving.ensures.handed);
    })))))
