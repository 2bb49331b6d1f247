use Rattle.std.proofs.Common.{ap}
use Rattle.pdc_core.proofs.Alike.{same_sizes}
use Rattle.pdc_merge.specs.Merger.{StandsFor, MergerView}
use Rattle.pdc_merge.proofs.merger.MergerCore.copy_from.Goals as goal

pub copy_from-requires : goal.copy_from-requires
copy_from-requires g c =
    rw (ap (λ (v : MergerView). v.state) c.self.view_is, ap (λ (v : MergerView). v.state) c.other.view_is)
    (same_sizes (λ g E. StandsFor g E c.args.self.now) (λ g E. StandsFor g E c.args.other.now) c.args.self.now.state c.args.other.now.state
    (λ g E s. s.aligned) (λ g E s. s.aligned) c.requires)
