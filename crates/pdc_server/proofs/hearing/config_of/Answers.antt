use Rattle.std.proofs.Common.{sym, subst}
use Rattle.std.proofs.Math.Logic.{∥∥₁_elim, ∥∥₁_map}
use Rattle.std.proofs.Props.{props}
use Rattle.pdc_frame.specs.Frame.{fields_of}
use Rattle.pdc_server.specs.Stream.{IsLayoutWith}
use Rattle.pdc_server.proofs.Layouts.{config_kind, config_spelled, is_ok, of_ok}
use Rattle.pdc_server.proofs.hearing.config_of.Goals as goal

pub unwrap-frame-requires : goal.unwrap-frame-requires
unwrap-frame-requires g c = ∥∥₁_elim c.requires (search props) (λ l. is_ok _ c.read_frame.result (c.read_frame.ensures.only l.1.fields l.1.frame))

pub unwrap-requires : goal.unwrap-requires
unwrap-requires g c = ∥∥₁_elim c.requires (search props) (λ l.
    let is = of_ok _ c.read_frame.result c.unwrap-frame.result c.unwrap-frame.ensures (c.read_frame.ensures.only l.1.fields l.1.frame) in
    let f = fields_of c.unwrap-frame.result in
    is_ok _ c.read_config.result (c.read_config.ensures.only l.0 (config_kind g.N.Naming.stream c.args.stamp c.args.layout.now l.0 l.1 f is) (config_spelled g.N.Naming.stream c.args.stamp c.args.layout.now l.0 l.1 f is)))

pub returns : goal.returns
returns g c = ∥∥₁_map c.requires (λ l.
    let is = of_ok _ c.read_frame.result c.unwrap-frame.result c.unwrap-frame.ensures (c.read_frame.ensures.only l.1.fields l.1.frame) in
    let f = fields_of c.unwrap-frame.result in
    let same = of_ok _ c.read_config.result c.unwrap.result c.unwrap.ensures
    (c.read_config.ensures.only l.0 (config_kind g.N.Naming.stream c.args.stamp c.args.layout.now l.0 l.1 f is) (config_spelled g.N.Naming.stream c.args.stamp c.args.layout.now l.0 l.1 f is)) in
    subst (IsLayoutWith g.N.Naming.stream c.args.stamp c.args.layout.now) (sym same) l.1)
