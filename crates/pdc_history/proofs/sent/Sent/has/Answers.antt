use Rattle.std.proofs.Common.{subst}
use Rattle.std.specs.Prelude.{◌↔◌, IsTrue}
use Rattle.std.specs.List.{Contains}
use Rattle.pdc_history.specs.Sent.{SentView}
use Rattle.pdc_history.proofs.sent.Sent.has.Goals as goal

pub returns : goal.returns
returns c = subst (λ (v : SentView). IsTrue c.has_frame.result ↔ Contains v.frames c.args.bytes.now) c.self.view_is c.has_frame.ensures
