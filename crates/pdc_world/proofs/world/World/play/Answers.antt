-- Events that were played, and one more.
use Rattle.std.proofs.Common.{[], ◌++◌, ◌+◌, ◌<◌, ◌∙◌, ◌∷◌, ◌≡◌, ◌≤◌, ap, arith, drop, drop-cons, Err, get_or, IfOk, length, List, map, Ok, OnErr, refl, Result, subst, suc, sym, take, ℕ}
use Rattle.pdc_world.proofs.Names.{Asked, asked_of, Event, Fault, Happened, Holds, IsAnswered, IsCutShort, IsPlayed, IsPlayOf, IsStepOf, IsWhy, length-map, length-take-le, map-append, Reply, take-append-drop, take_all, take_more, World, WorldView}
use Rattle.pdc_history.specs.declared.event.Event.TheVariants as event
use Rattle.pdc_world.proofs.world.World.play.Goals as goal

play_more : (W : World) (H after : List Happened) (asked : List Asked) (it : Asked) (h : Happened) → IsPlayOf W H asked after → IsStepOf W after it h
    → IsPlayOf W H (asked ++ it ∷ []) (h ∷ after)
play_more W H after [] it h same step = (h, subst (λ (X : List Happened). IsStepOf W X it h) same step, subst (λ (X : List Happened). h ∷ X ≡ h ∷ H) (sym same) refl)
play_more W H after (asked ∷ more) it h play step = (play.0, play.1, play_more W (play.0 ∷ H) after more it h play.2 step)

answered_more : (W : World) (H : List Happened) (asked : List Asked) (it : Asked) (old new : WorldView) (result : Result Reply Fault) → (p : IsPlayed W H asked old)
    → IfOk result (λ (reply : Reply). IsAnswered W p.after it reply new) → ((fault : Fault) → result ≡ Err fault → ⊥) → IsPlayed W H (asked ++ it ∷ []) new
answered_more W H asked it old new (Ok reply) p made ok = record {
  after = made.happened ∷ p.after;
  play = play_more W H p.after asked it made.happened p.play made.step;
  holds = made.holds;
}
answered_more W H asked it old new (Err fault) p made ok = absurd (ok fault refl)

played_more : (W : World) (H : List Happened) (events : List Event) (i : ℕ) (d : Event) (old new : WorldView) (result : Result Reply Fault) → i < length events
    → IsPlayed W H (map asked_of (take i events)) old
    → ((X : World) (Y : List Happened) → Holds X Y old → IfOk result (λ (reply : Reply). IsAnswered X Y (asked_of (get_or events i d)) reply new))
    → ((fault : Fault) → result ≡ Err fault → ⊥) → IsPlayed W H (map asked_of (take (i + 1) events)) new
played_more W H events i d old new result h p made ok =
    let one : map asked_of (take (i + 1) events) ≡ map asked_of (take i events) ++ asked_of (get_or events i d) ∷ [] =
    ap (map asked_of) (take_more events i d h) ∙ map-append asked_of (take i events) (get_or events i d ∷ []) in
    subst (λ (asked : List Asked). IsPlayed W H asked new) (sym one)
    (answered_more W H (map asked_of (take i events)) (asked_of (get_or events i d)) old new result p (made W p.after p.holds) ok)

as_many : (events : List Event) (i : ℕ) → i ≤ length events → length (map asked_of (take i events)) ≡ i
as_many events i h = length-map (take i events) asked_of ∙ length-take-le i events h

cut_short : (W : World) (H : List Happened) (events : List Event) (i : ℕ) (d : Event) (old new : WorldView) (result : Result Reply Fault) (fault : Fault) → i < length events
    → IsPlayed W H (map asked_of (take i events)) old → result ≡ Err fault → OnErr result (new ≡ old)
    → ((X : World) (Y : List Happened) → Holds X Y old → IsWhy X Y (asked_of (get_or events i d)) fault)
    → IsCutShort W H (map asked_of events) (record { fault = fault; at = i + 1 }) new
cut_short W H events i d old new result fault h p is same why =
    let whole : events ≡ take i events ++ get_or events i d ∷ drop (suc i) events =
    sym (take-append-drop i events) ∙ ap (λ (rest : List Event). take i events ++ rest) (drop-cons events i d h) in
    record {
      before = map asked_of (take i events);
      it = asked_of (get_or events i d);
      behind = map asked_of (drop (suc i) events);
      split = ap (map asked_of) whole ∙ map-append asked_of (take i events) (get_or events i d ∷ drop (suc i) events);
      at = ap (λ (n : ℕ). n + 1) (sym (as_many events i (omega arith)));
      played = record {
        after = p.after;
        play = p.play;
        holds = subst (λ (v : WorldView). Holds W p.after v) (sym (subst (λ (r : Result Reply Fault). OnErr r (new ≡ old)) is same)) p.holds;
      };
      why = why W p.after p.holds;
    }

all_played : (W : World) (H : List Happened) (events : List Event) (i : ℕ) (v : WorldView) → length events ≤ i → IsPlayed W H (map asked_of (take i events)) v
    → IsPlayed W H (map asked_of events) v
all_played W H events i v h p = subst (λ (xs : List Event). IsPlayed W H (map asked_of xs) v) (take_all i events h) p

pub returns-in-Err-clause-cut : goal.returns-in-Err-clause-cut
returns-in-Err-clause-cut g c =
    λ W H h.
    let d : Event = event.Send (record { ref_ptr = (0, 0); now = [] }) in
    cut_short W H c.args.events.now c.loop-index.index d c.loop-index.self c.step.new.self c.step.result c.in-Err.fault c.loop-index-test.true
    (c.loop-index.invariant W H h) c.in-Err.is c.step.ensures.err c.in-Err.ensures.why

pub loop-index-preserved : goal.loop-index-preserved
loop-index-preserved g c =
    λ W H h.
    let d : Event = event.Send (record { ref_ptr = (0, 0); now = [] }) in
    played_more W H c.args.events.now c.loop-index.index d c.loop-index.self c.step.new.self c.step.result c.loop-index-test.true (c.loop-index.invariant W H h)
    c.step.ensures.made c.in_default.not-Err

pub returns-clause-made : goal.returns-clause-made
returns-clause-made g c = λ W H h. all_played W H c.args.events.now c.loop-index.index c.loop-index.self c.loop-index-test.false (c.loop-index.invariant W H h)
