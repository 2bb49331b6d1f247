use Rattle.std.proofs.Common.{rules}
use Rattle.pdc_core.proofs.reads.lend_checked.Goals as goal

pub returns-in_err-keep_heard-in-BytesRefused-clause-in_place : goal.returns-in_err-keep_heard-in-BytesRefused-clause-in_place
returns-in_err-keep_heard-in-BytesRefused-clause-in_place c =
    let h = c.in_err-keep_heard-in-BytesRefused.ensures.in_place c.args.bytes.now c.in-BytesRefused.ensures.heard in (h.0, h.1, λ e. search (rules, h.2 e))

pub returns-in_err-keep_heard-in-Configuration-clause-in_place : goal.returns-in_err-keep_heard-in-Configuration-clause-in_place
returns-in_err-keep_heard-in-Configuration-clause-in_place c =
    let h = c.in_err-keep_heard-in-Configuration.ensures.in_place c.args.bytes.now c.in-Configuration.ensures.heard in (h.0, h.1, λ e. search (rules, h.2 e))

pub returns-in_ok-keep_heard-in-BytesRefused-clause-says : goal.returns-in_ok-keep_heard-in-BytesRefused-clause-says
returns-in_ok-keep_heard-in-BytesRefused-clause-says c = c.in_ok-keep_heard-in-BytesRefused.ensures.says c.args.bytes.now c.in-BytesRefused.ensures.heard

pub returns-in_ok-keep_heard-in-Configuration-clause-says : goal.returns-in_ok-keep_heard-in-Configuration-clause-says
returns-in_ok-keep_heard-in-Configuration-clause-says c = c.in_ok-keep_heard-in-Configuration.ensures.says c.args.bytes.now c.in-Configuration.ensures.heard
