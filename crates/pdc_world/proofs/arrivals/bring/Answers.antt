use Rattle.std.proofs.Common.{◌∙◌, ◌≡◌, ap, option_map, Some, sym}
use Rattle.pdc_world.proofs.Names.{slice_get, stream_ids, who_of}
use Rattle.pdc_world.proofs.{Heard.{may_to, read_past, read_to}, Made.{heard_made, passed_made, said_to}}
use Rattle.pdc_history.specs.Asked as asked
use Rattle.pdc_world.proofs.arrivals.bring.Goals as goal

pub returns-in-Some-named-clause-made : goal.returns-in-Some-named-clause-made
returns-in-Some-named-clause-made g c =
    λ W H part.
    let there : slice_get c.args.ledger.now.sent.frames c.args.number ≡ Some c.in-Some.bytes.now = sym c.get.ensures ∙ ap (option_map (λ b. b.now)) c.in-Some.is in
    let of_kind = g.met.C.Plays.is_of_kind (g.C.Core.settings_of c.args.station.now.core) in
    let hears = c.put_datagram.ensures.hears in
    let says = said_to W (who_of c.args.who) _ c.in-Some-named.stream c.in-Some.bytes.now hears.arrival part.one (of_kind.same_says c.in-Some-named.stream c.in-Some.bytes.now hears.arrival hears.says) in
    heard_made W H c.args.who (asked.To (who_of c.args.who) c.args.number) _ _ _ _ _ _ _ _ of_kind.same_rules part hears
    (ap g.S.Mark.stored c.put_datagram.ensures.mark)
    (read_to W H (who_of c.args.who) c.args.number c.in-Some-named.stream _ c.in-Some.bytes.now c.args.ledger.now.sent.frames _ part.keeps.frames there (ap stream_ids part.one.kind)
    c.in-Some-named.ensures.named says)
    (may_to W H (who_of c.args.who) c.args.number c.in-Some-named.stream c.in-Some.bytes.now c.args.ledger.now.sent.frames _ part.keeps.frames there says)

pub returns-in-None-clause-made : goal.returns-in-None-clause-made
returns-in-None-clause-made g c =
    λ W H part.
    let there : slice_get c.args.ledger.now.sent.frames c.args.number ≡ Some c.in-Some.bytes.now = sym c.get.ensures ∙ ap (option_map (λ b. b.now)) c.in-Some.is in
    passed_made W H c.args.who (asked.To (who_of c.args.who) c.args.number) _ _ part
    (read_past W H (who_of c.args.who) c.args.number _ c.in-Some.bytes.now c.args.ledger.now.sent.frames part.keeps.frames there (ap stream_ids part.one.kind) c.in-None.ensures.none)
