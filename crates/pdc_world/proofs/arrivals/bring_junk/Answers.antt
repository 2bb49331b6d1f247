use Rattle.std.proofs.Common.{ap, List, subst, sym, ℕ}
use Rattle.pdc_world.proofs.Names.{IsNamed, stream_ids, who_of}
use Rattle.pdc_world.proofs.{arrivals.bring_junk.Goals.{in-None, in-Some+else-not-has}, Heard.{may_named, may_unnamed, read_named, read_unnamed}, Made.{heard_made, said_to}}
use Rattle.pdc_history.specs.Asked as asked
use Rattle.pdc_world.proofs.arrivals.bring_junk.Goals as goal

pub returns-clause-made : goal.returns-clause-made
returns-clause-made g c =
    λ W H part.
    let hears = c.put_datagram-outcome.ensures.hears in
    let of_kind = g.met.C.Plays.is_of_kind (g.C.Core.settings_of c.args.station.now.core) in
    let says = said_to W (who_of c.args.who) _ c.match-named.stream c.args.bytes.now hears.arrival part.one (of_kind.same_says c.match-named.stream c.args.bytes.now hears.arrival hears.says) in
    let ids : List ℕ = stream_ids (g.C.Plays.kind (g.C.Core.settings_of c.args.station.now.core)) in
    elim c.match-named.branch [
      | in-Some+else-not-has w ↦
          heard_made W H c.args.who (asked.Junk (who_of c.args.who) c.args.bytes.now) _ _ _ _ _ _ _ _ of_kind.same_rules part hears (ap g.S.Mark.stored c.put_datagram-outcome.ensures.mark)
          (read_named W H (who_of c.args.who) c.match-named.stream ids c.args.bytes.now _ (ap stream_ids part.one.kind)
          (subst (λ (s : ℕ). IsNamed ids c.args.bytes.now s) (sym w.stream-is) w.in-Some.ensures.named) says)
          (may_named W H (who_of c.args.who) c.match-named.stream c.args.bytes.now c.args.ledger.now.sent.frames _ part.keeps.frames
          (w.has.ensures.0 w.if-not-has.false) says)
      | in-None w ↦
          heard_made W H c.args.who (asked.Junk (who_of c.args.who) c.args.bytes.now) _ _ _ _ _ _ _ _ of_kind.same_rules part hears (ap g.S.Mark.stored c.put_datagram-outcome.ensures.mark)
          (read_unnamed W H (who_of c.args.who) c.match-named.stream ids c.args.bytes.now _ w.stream-is (ap stream_ids part.one.kind) w.in-None.ensures.none says)
          (may_unnamed W H (who_of c.args.who) c.match-named.stream ids c.args.bytes.now _ (ap stream_ids part.one.kind) w.in-None.ensures.none says)
    ]
