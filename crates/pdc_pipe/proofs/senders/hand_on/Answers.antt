use Rattle.std.proofs.Common.{◌≡◌, sym, ◌∙◌, rules, [], ◌∷◌, ◌++◌, append-nil, subst, List, ℕ}
use Rattle.crossbeam_channel.specs.Claims.{view}
use Rattle.pdc_pipe.specs.declared.message.Message.TheVariants.{Data, Layout, End}
use Rattle.pdc_publisher.specs.PublishedRow.{frame_in}
use Rattle.pdc_pipe.specs.Sequence.{bytes_of}
use Rattle.pdc_pipe.proofs.Pipes.{took_data, took_layout, took_end}
use Rattle.pdc_pipe.proofs.senders.hand_on.Goals as goal

pub loop-init : goal.loop-init
loop-init g c = (search rules, search rules, subst (λ (l : List (List ℕ)). g.K.Sink.took c.args.sink.now c.args.sink.now l) (search rules) (g.K.Sink.nothing c.args.sink.now), search rules)

pub returns-then-is_err-clause-took : goal.returns-then-is_err-clause-took
returns-then-is_err-clause-took g c =
    let more : (view c.take_next.new.pass).taken ≡ (view c.loop.pass).taken ++ Data c.in-Some-Data.row ∷ [] = search rules in
    (bytes_of (view c.loop.pass).taken, frame_in c.in-Some-Data.row ∷ [], search (rules, c.send_data-sent.ensures.err, c.if-is_err.true, c.loop.invariant.2), took_data _ _ _ more)

pub loop-preserved-else-is_err : goal.loop-preserved-else-is_err
loop-preserved-else-is_err g c =
    let more : (view c.take_next.new.pass).taken ≡ (view c.loop.pass).taken ++ Data c.in-Some-Data.row ∷ [] = search rules in
    let now : g.K.Sink.took c.args.sink.now c.send_data-sent.new.self (bytes_of (view c.loop.pass).taken ++ frame_in c.in-Some-Data.row ∷ []) = search (rules, c.send_data-sent.ensures.ok, c.if-is_err.false, c.loop.invariant.2) in
    (search rules, search rules, subst (g.K.Sink.took c.args.sink.now c.send_data-sent.new.self) (sym (took_data _ _ _ more)) now, search rules)

pub returns-then-is_err-2-clause-took : goal.returns-then-is_err-2-clause-took
returns-then-is_err-2-clause-took g c =
    let more : (view c.take_next.new.pass).taken ≡ (view c.loop.pass).taken ++ Layout c.in-Some-Layout.frame ∷ [] = search rules in
    (bytes_of (view c.loop.pass).taken, c.in-Some-Layout.frame.bytes.items ∷ [], search (rules, c.send_layout.ensures.err, c.if-is_err-2.true, c.loop.invariant.2), took_layout _ _ _ more)

pub loop-preserved : goal.loop-preserved
loop-preserved g c =
    let more : (view c.take_next.new.pass).taken ≡ (view c.loop.pass).taken ++ Layout c.in-Some-Layout.frame ∷ [] = search rules in
    let now : g.K.Sink.took c.args.sink.now c.send_layout.new.self (bytes_of (view c.loop.pass).taken ++ c.in-Some-Layout.frame.bytes.items ∷ []) = search (rules, c.send_layout.ensures.ok, c.if-is_err-2.false, c.loop.invariant.2) in
    (search rules, search rules, subst (g.K.Sink.took c.args.sink.now c.send_layout.new.self) (sym (took_layout _ _ _ more)) now, search rules)

pub returns-in-Some-End-clause-took : goal.returns-in-Some-End-clause-took
returns-in-Some-End-clause-took g c =
    let more : (view c.take_next.new.pass).taken ≡ (view c.loop.pass).taken ++ End ∷ [] = search rules in
    (bytes_of (view c.loop.pass).taken, [], c.loop.invariant.2, took_end _ _ more ∙ sym (append-nil (bytes_of (view c.loop.pass).taken)))

pub returns-in-Some-End-clause-whole : goal.returns-in-Some-End-clause-whole
returns-in-Some-End-clause-whole g c _ =
    let more : (view c.take_next.new.pass).taken ≡ (view c.loop.pass).taken ++ End ∷ [] = search rules in
    (subst (g.K.Sink.took c.args.sink.now c.loop.sink) (sym (took_end _ _ more)) c.loop.invariant.2, ((view c.loop.pass).taken, more))
