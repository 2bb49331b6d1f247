use Rattle.std.proofs.Common.{[], ◌∷◌}
use Rattle.std.proofs.lemmas.Result.{err_from_is_err_and}
use Rattle.pdc_startup.specs.Begun.{begun_mark}
use Rattle.pdc_startup.specs.declared.described.Step.TheVariants.{BeginMark, BeginRecord, OpenListener, OpenMetrics, OpenSink, OpenSources}
use Rattle.pdc_service.proofs.Steps.{begins, stops, wants_memory}
use Rattle.pdc_service.proofs.service.serve_described.Goals as goal

pub returns-in_err-mark-clause-opened : goal.returns-in_err-mark-clause-opened
returns-in_err-mark-clause-opened g c =
    let tried = g.M.Machine.tried in
    let d = c.args.described.now in
    let p = err_from_is_err_and c.from_residual.result c.from_residual.ensures.1 in
    rw (p.1, p.2)
    (stops tried d (BeginMark c.args.files.now) (OpenSources ∷ OpenSink ∷ OpenListener ∷ OpenMetrics ∷ BeginRecord c.args.files.now ∷ []) c.in_err-mark.field-0.0 c.in_err-mark.ensures.told c.in_err-mark.ensures.faults)

pub returns-in_default-clause-opened : goal.returns-in_default-clause-opened
returns-in_default-clause-opened g c =
    let tried = g.M.Machine.tried in
    let d = c.args.described.now in
    let files = c.args.files.now in
    (begins tried d files (g.M.Mark.Mark.stored (begun_mark c.in_ok-mark.mark)) c.in_ok-mark.ensures.told
    (wants_memory tried _ d OpenSources (OpenSink ∷ OpenListener ∷ OpenMetrics ∷ BeginRecord files ∷ [])))

pub returns-clause-opened : goal.returns-clause-opened
returns-clause-opened g c =
    let tried = g.M.Machine.tried in
    let d = c.args.described.now in
    let files = c.args.files.now in
    (begins tried d files (g.M.Mark.Mark.stored (begun_mark c.in_ok-mark.mark)) c.in_ok-mark.ensures.told
    c.serve_watched.ensures.opened)
