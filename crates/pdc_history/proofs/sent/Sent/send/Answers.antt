use Rattle.std.proofs.Common.{subst}
use Rattle.std.proofs.lemmas.Result.{err_from_is_err_and}
use Rattle.pdc_history.specs.Sent.{IsSendFault, MaySendAfter, SentView}
use Rattle.pdc_history.proofs.Keeping.{refused_is_fault}
use Rattle.pdc_history.proofs.Worlds.{has_cause, may_be_sent}
use Rattle.pdc_history.proofs.sent.Sent.send.Goals as goal

pub returns-in_err-bucket-clause-fault : goal.returns-in_err-bucket-clause-fault
returns-in_err-bucket-clause-fault c =
    let fault = c.in_err-bucket.field-0.0 in
    let p = err_from_is_err_and c.from_residual.result c.from_residual.ensures.1 in
    rw (p.1, p.2)
    (subst (λ (v : SentView). IsSendFault v c.args.bytes.now fault) c.self.view_is
    (refused_is_fault (record { frames = c.self.inside.frames.frames; has_room = c.self.inside.has_room; settings = c.self.inside.settings }) c.args.bytes.now fault c.in_err-bucket.ensures.fault))

pub returns-in_err-bucket-clause-cause : goal.returns-in_err-bucket-clause-cause
returns-in_err-bucket-clause-cause c =
    let fault = c.in_err-bucket.field-0.0 in
    let p = err_from_is_err_and c.from_residual.result c.from_residual.ensures.1 in
    rw (p.1, p.2)
    (has_cause c.args.self.now c.args.bytes.now fault
    (subst (λ (v : SentView). IsSendFault v c.args.bytes.now fault) c.self.view_is
    (refused_is_fault (record { frames = c.self.inside.frames.frames; has_room = c.self.inside.has_room; settings = c.self.inside.settings }) c.args.bytes.now fault c.in_err-bucket.ensures.fault)))

pub returns-clause-event : goal.returns-clause-event
returns-clause-event c =
    may_be_sent c.args.self.now c.args.bytes.now (subst (λ (v : SentView). MaySendAfter v.settings v.frames c.args.bytes.now) c.self.view_is c.in_ok-bucket.ensures.may)

pub returns-in_err-map_err-clause-memory : goal.returns-in_err-map_err-clause-memory
returns-in_err-map_err-clause-memory c =
    λ wanting. may_be_sent c.args.self.now c.args.bytes.now (subst (λ (v : SentView). MaySendAfter v.settings v.frames c.args.bytes.now) c.self.view_is c.in_ok-bucket.ensures.may)
