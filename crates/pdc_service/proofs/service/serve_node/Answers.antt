use Rattle.std.proofs.lemmas.Result.{err_from_is_err_and}
use Rattle.pdc_startup.specs.pdc_sockets.Concentrator.{IsNode}
use Rattle.pdc_service.proofs.Steps.{starts, unread}
use Rattle.pdc_service.proofs.service.serve_node.Goals as goal

pub returns-in_err-described-clause-started : goal.returns-in_err-described-clause-started
returns-in_err-described-clause-started g c =
    let p = err_from_is_err_and c.from_residual.result c.from_residual.ensures.1 in
    rw (p.1, p.2)
    (unread g.M.Machine.tried IsNode c.args.files.now c.in_err-described.field-0.0 c.in_err-described.ensures.told c.in_err-described.ensures.faults)

pub returns-clause-started : goal.returns-clause-started
returns-clause-started g c =
    starts g.M.Machine.tried IsNode c.args.files.now c.in_ok-described.described c.in_ok-described.ensures.told c.in_ok-described.ensures.node c.serve_described.ensures.opened
