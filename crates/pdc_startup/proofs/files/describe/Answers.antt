use Rattle.std.proofs.Common.{rules, subst, sym}
use Rattle.std.specs.Prelude.{IsSomeAnd}
use Rattle.pdc_settings.specs.Document.{members_of}
use Rattle.pdc_settings.specs.Network.{IsNetwork}
use Rattle.pdc_startup.proofs.files.describe.Goals as goal

pub invariant_of-result : goal.invariant_of-result
invariant_of-result c =
    let network : IsNetwork (members_of c.args.document) c.in_ok-network.network = search rules in
    record {
      parsed = ∣ c.requires.parsed ∣₁;
      said = c.requires.said;
      network_said = ∣ subst (λ parsed. IsSomeAnd parsed (λ members. IsNetwork members c.in_ok-network.network)) (sym c.requires.parsed) network ∣₁;
    }
