use Rattle.std.proofs.Common.{[], ◌∷◌}
use Rattle.std.proofs.lemmas.Result.{err_from_is_err_and}
use Rattle.pdc_startup.specs.declared.described.Step.TheVariants.{BeginRecord, OpenListener, OpenMetrics, OpenSink, OpenSources}
use Rattle.pdc_service.proofs.Steps.{goes_on, stops}
use Rattle.pdc_service.proofs.service.serve_watched.Goals as goal

pub returns-in_err-sources-clause-opened : goal.returns-in_err-sources-clause-opened
returns-in_err-sources-clause-opened g c =
    let tried = g.M.Machine.tried in
    let d = c.args.described.now in
    let p = err_from_is_err_and c.from_residual.result c.from_residual.ensures.1 in
    rw (p.1, p.2)
    (stops tried d OpenSources (OpenSink ∷ OpenListener ∷ OpenMetrics ∷ BeginRecord c.args.files.now ∷ []) c.in_err-sources.field-0.0 c.in_err-sources.ensures.told c.in_err-sources.ensures.faults)

pub returns-clause-opened : goal.returns-clause-opened
returns-clause-opened g c =
    let tried = g.M.Machine.tried in
    let d = c.args.described.now in
    (goes_on tried d OpenSources c.in_ok-sources.ensures.told
    c.serve_linked.ensures.opened)
