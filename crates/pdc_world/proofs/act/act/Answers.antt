-- The contract of an act, of an event that is another one.
use Rattle.std.proofs.Common.{◌∙◌, ◌≡◌, ap, Result, subst, sym}
use Rattle.pdc_world.proofs.Names.{asked_of, core_in, Event, Fault, IsMade, IsRefused, LedgerView, Reply, Seat}
use Rattle.pdc_world.proofs.Made.{sent_made}
use Rattle.pdc_history.specs.declared.event.Event.TheVariants as event
use Rattle.pdc_world.proofs.act.act.Goals as goal

made_of : (e f : Event) (before after : Seat) (old new : LedgerView) (result : Result Reply Fault) → e ≡ f → IsMade (core_in f) (asked_of f) before after old new result
    → IsMade (core_in e) (asked_of e) before after old new result
made_of e f before after old new result same made = subst (λ (x : Event). IsMade (core_in x) (asked_of x) before after old new result) (sym same) made

refused_of : (e f : Event) (before : Seat) (old : LedgerView) (result : Result Reply Fault) → e ≡ f → IsRefused (core_in f) (asked_of f) before old result
    → IsRefused (core_in e) (asked_of e) before old result
refused_of e f before old result same refused = subst (λ (x : Event). IsRefused (core_in x) (asked_of x) before old result) (sym same) refused

pub returns-in-Send-clause-made : goal.returns-in-Send-clause-made
returns-in-Send-clause-made g c =
    λ W H part.
    sent_made W H (core_in c.args.event.now) (asked_of c.args.event.now) c.in-Send.bytes.now _ _ _ c.send.result (ap asked_of c.in-Send.is) part
    (c.send.ensures.made W H part.keeps)

pub returns-in-To-clause-made : goal.returns-in-To-clause-made
returns-in-To-clause-made g c = made_of _ _ _ _ _ _ c.bring.result c.in-To.is c.bring.ensures.made

pub returns-in-To-clause-why : goal.returns-in-To-clause-why
returns-in-To-clause-why g c = refused_of _ _ _ _ c.bring.result c.in-To.is c.bring.ensures.why

pub returns-in-Junk-clause-made : goal.returns-in-Junk-clause-made
returns-in-Junk-clause-made g c = made_of _ _ _ _ _ _ c.bring_junk.result c.in-Junk.is c.bring_junk.ensures.made

pub returns-in-Junk-clause-why : goal.returns-in-Junk-clause-why
returns-in-Junk-clause-why g c = refused_of _ _ _ _ c.bring_junk.result c.in-Junk.is c.bring_junk.ensures.why

pub returns-in-Tick-clause-made : goal.returns-in-Tick-clause-made
returns-in-Tick-clause-made g c = made_of _ _ _ _ _ _ c.tick.result (c.in-Do.is ∙ ap (event.Do c.in-Do.who) c.in-Tick.is) c.tick.ensures.made

pub returns-in-Publish-clause-made : goal.returns-in-Publish-clause-made
returns-in-Publish-clause-made g c = made_of _ _ _ _ _ _ c.publish.result (c.in-Do.is ∙ ap (event.Do c.in-Do.who) c.in-Publish.is) c.publish.ensures.made

pub returns-in-Stop-clause-made : goal.returns-in-Stop-clause-made
returns-in-Stop-clause-made g c = made_of _ _ _ _ _ _ c.stop.result (c.in-Do.is ∙ ap (event.Do c.in-Do.who) c.in-Stop.is) c.stop.ensures.made

pub returns-in-Stop-clause-why : goal.returns-in-Stop-clause-why
returns-in-Stop-clause-why g c = refused_of _ _ _ _ c.stop.result (c.in-Do.is ∙ ap (event.Do c.in-Do.who) c.in-Stop.is) c.stop.ensures.why
