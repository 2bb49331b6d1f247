use Rattle.std.proofs.Common.{subst}
use Rattle.std.specs.Prelude.{IfOk}
use Rattle.pdc_service.specs.Summed.{HaveEach}
use Rattle.std.proofs.lemmas.Result.{err_from_is_err_and}
use Rattle.pdc_startup.specs.pdc_sockets.Concentrator.{IsMerger}
use Rattle.pdc_service.proofs.Steps.{starts, two_streams, unread}
use Rattle.pdc_service.proofs.service.serve_merger.Goals as goal

pub returns-in_err-described-clause-started : goal.returns-in_err-described-clause-started
returns-in_err-described-clause-started g c =
    let p = err_from_is_err_and c.from_residual.result c.from_residual.ensures.1 in
    rw (p.1, p.2)
    (unread g.M.Machine.tried IsMerger c.args.files.now c.in_err-described.field-0.0 c.in_err-described.ensures.told c.in_err-described.ensures.faults)

pub returns-clause-started : goal.returns-clause-started
returns-clause-started g c =
    starts g.M.Machine.tried IsMerger c.args.files.now c.in_ok-described.described c.in_ok-described.ensures.told c.in_ok-described.ensures.merger c.serve_described.ensures.opened

pub returns-clause-each : goal.returns-clause-each
returns-clause-each g c =
    subst (λ n. IfOk c.serve_described.result (HaveEach n)) (two_streams c.in_ok-described.described.concentrator c.in_ok-described.ensures.merger) c.serve_described.ensures.each
