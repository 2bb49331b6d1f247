use Rattle.std.proofs.Common.{subst}
use Rattle.std.specs.Prelude.{◌↔◌, IsTrue}
use Rattle.pdc_history.specs.Sent.{IsOfNone, IsOfSome, SentView}
use Rattle.pdc_history.proofs.Lookups.{none_is}
use Rattle.pdc_history.proofs.sent.Sent.is_of_no_pmu.Goals as goal

pub returns : goal.returns
returns c =
    subst (λ (v : SentView). IsTrue c.is_none.result ↔ IsOfNone v.settings c.args.bytes.now) c.self.view_is
    (none_is c.pmu_of.result (IsOfNone c.self.inside.settings c.args.bytes.now) (λ pmu. IsOfSome c.self.inside.settings c.args.bytes.now pmu.now) c.pmu_of.ensures.pmu
    (λ pmu some none. none some.0 pmu.now some.1) c.is_none.result c.is_none.ensures)
