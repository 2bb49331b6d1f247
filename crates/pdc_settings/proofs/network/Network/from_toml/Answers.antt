use Rattle.pdc_settings.specs.Document.{members_of}
use Rattle.pdc_settings.specs.Network.{IsNetworkFault}
use Rattle.pdc_settings.specs.Settings.{IsFaultOf}
use Rattle.pdc_settings.proofs.Inputs.{err-map, text-fault}
use Rattle.pdc_settings.proofs.network.Network.from_toml.Goals as goal

pub returns-clause-fault : goal.returns-clause-fault
returns-clause-fault c =
    err-map c.from_document.result (IsNetworkFault (members_of c.in_ok-document.document)) (IsFaultOf IsNetworkFault c.args.text.now)
    (λ fault. text-fault c.args.text.now (members_of c.in_ok-document.document) fault c.in_ok-document.ensures.found)
    c.from_document.ensures.fault
