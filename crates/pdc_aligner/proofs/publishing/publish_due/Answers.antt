use Rattle.std.proofs.Common.{rules, arith, ◌≡◌, ◌∙◌, Bool, true, List, ap, length, subst}
use Rattle.pdc_pipe.specs.Writing.{put_by}
use Rattle.pdc_row.specs.declared.output.Output.{Output}
use Rattle.pdc_publisher.specs.Publisher.{output_in}
use Rattle.pdc_row.specs.RowView.{row_view}
use Rattle.pdc_aligner.specs.Sequence.{HasPutRow, instants_of}
use Rattle.pdc_aligner.proofs.Devices.{sound_of, sound_on}
use Rattle.pdc_life.specs.Answer.{ToPop, pop_answer}
use Rattle.pdc_log.specs.Log.{HasTurned}
use Rattle.pdc_hub.specs.Pops.{IsPop}
use Rattle.pdc_aligner.proofs.Laying.{asked_popped, at_popped, done_none, done_popped, pop_laid, pop_lost, pop_none, up_to_but}
use Rattle.pdc_pipe.specs.declared.message.Message.{Message}
use Rattle.pdc_aligner.proofs.Sequences.{one_more, put_but}
use Rattle.pdc_aligner.proofs.publishing.publish_due.Goals as goal

pub loop-preserved : goal.loop-preserved
loop-preserved g c =
    let before = put_by c.loop.writer in
    let after = put_by c.publish_one.new.writer in
    let output = output_in c.args.aligner.now.publisher in
    let row = c.next_row-step.new.pops.row.value in
    let framed = subst (λ (o : Output). HasPutRow o (row_view row) before after) c.loop.invariant.4 c.in_default.ensures.frame in
    let turned = subst (λ (b : Bool). HasTurned g.C.Core.rules g.N.Naming.given ToPop c.loop.pops.front c.next_row-step.new.pops.front c.next_row-step.result.step (λ h E. IsPop b row (pop_answer E))) (search rules) c.next_row-step.ensures.turned in (
      search rules,
      search rules,
      search rules,
      search rules,
      search rules,
      omega (arith, c.loop.invariant.5, (c.next_row-step.ensures.row (search rules)).counted, one_more before after framed.frame framed.behind),
      search rules,
      λ rate every h. pop_laid g.C.Core.rules g.N.Naming.given output rate every c.next_row-step.result.step row c.loop.pops.front c.next_row-step.new.pops.front before after turned framed (c.loop.invariant.7 rate every h),
      search rules,
      sound_on _ _ _ c.loop.invariant.9 (sound_of _ _ _ c.in_default.ensures.device),
      λ nows h. c.publish_one.ensures.gave nows (c.loop.invariant.10 nows h),
      search rules,
      λ every now wanted h. asked_popped g.C.Core.rules g.N.Naming.given every c.next_row-step.result.step now wanted (λ k E. IsPop true row (pop_answer E)) c.loop.pops.front c.next_row-step.new.pops.front turned (c.loop.invariant.12 every now wanted h),
      λ every place adopted h. at_popped g.C.Core.rules g.N.Naming.given every c.next_row-step.result.step place adopted (λ k E. IsPop true row (pop_answer E)) c.loop.pops.front c.next_row-step.new.pops.front turned (c.loop.invariant.13 every place adopted h),
      search rules,
      c.next_row-step.ensures.ticks ∙ c.loop.invariant.15,
      λ h. done_popped g.C.Core.rules g.N.Naming.given c.next_row-step.result.step (λ k E. IsPop true row (pop_answer E)) c.loop.pops.front c.next_row-step.new.pops.front turned (c.loop.invariant.16 h),
    )

pub returns-in-Err-clause-all : goal.returns-in-Err-clause-all
returns-in-Err-clause-all g c =
    let none : put_by c.publish_one.new.writer ≡ put_by c.loop.writer = c.in-Err.ensures.none in
    put_but _ _ 1 _ _ _ (omega (arith, c.loop.invariant.5, (c.next_row-step.ensures.row (search rules)).counted, ap (λ (ms : List Message). length (instants_of ms)) none)) (omega arith)

pub returns-then-not-answer-clause-laid : goal.returns-then-not-answer-clause-laid
returns-then-not-answer-clause-laid g c = λ pace h.
    let row = c.next_row-step.new.pops.row.value in
    let turned = subst (λ (b : Bool). HasTurned g.C.Core.rules g.N.Naming.given ToPop c.loop.pops.front c.next_row-step.new.pops.front c.next_row-step.result.step (λ h E. IsPop b row (pop_answer E))) (search rules) c.next_row-step.ensures.turned in
    pop_none g.C.Core.rules g.N.Naming.given (output_in c.args.aligner.now.publisher) pace.rate pace.layout_every c.next_row-step.result.step row c.loop.pops.front c.next_row-step.new.pops.front (put_by c.loop.writer) turned (c.loop.invariant.7 pace.rate pace.layout_every h)

pub returns-then-not-answer-clause-but : goal.returns-then-not-answer-clause-but
returns-then-not-answer-clause-but g c = λ pace h.
    let row = c.next_row-step.new.pops.row.value in
    let turned = subst (λ (b : Bool). HasTurned g.C.Core.rules g.N.Naming.given ToPop c.loop.pops.front c.next_row-step.new.pops.front c.next_row-step.result.step (λ h E. IsPop b row (pop_answer E))) (search rules) c.next_row-step.ensures.turned in
    up_to_but g.C.Core.rules g.N.Naming.given (output_in c.args.aligner.now.publisher) pace.rate pace.layout_every c.next_row-step.new.pops.front (put_by c.loop.writer)
    (pop_none g.C.Core.rules g.N.Naming.given (output_in c.args.aligner.now.publisher) pace.rate pace.layout_every c.next_row-step.result.step row c.loop.pops.front c.next_row-step.new.pops.front (put_by c.loop.writer) turned (c.loop.invariant.7 pace.rate pace.layout_every h))

pub returns-then-not-answer-clause-asked : goal.returns-then-not-answer-clause-asked
returns-then-not-answer-clause-asked g c = λ every now wanted h.
    asked_popped g.C.Core.rules g.N.Naming.given every c.next_row-step.result.step now wanted (λ k E. IsPop c.next_row-step.result.answer c.next_row-step.new.pops.row.value (pop_answer E)) c.loop.pops.front c.next_row-step.new.pops.front c.next_row-step.ensures.turned (c.loop.invariant.12 every now wanted h)

pub returns-then-not-answer-clause-at : goal.returns-then-not-answer-clause-at
returns-then-not-answer-clause-at g c = λ every place adopted h.
    at_popped g.C.Core.rules g.N.Naming.given every c.next_row-step.result.step place adopted (λ k E. IsPop c.next_row-step.result.answer c.next_row-step.new.pops.row.value (pop_answer E)) c.loop.pops.front c.next_row-step.new.pops.front c.next_row-step.ensures.turned (c.loop.invariant.13 every place adopted h)

pub returns-in-Err-clause-but : goal.returns-in-Err-clause-but
returns-in-Err-clause-but g c = λ pace h.
    let row = c.next_row-step.new.pops.row.value in
    let none : put_by c.publish_one.new.writer ≡ put_by c.loop.writer = c.in-Err.ensures.none in
    let turned = subst (λ (b : Bool). HasTurned g.C.Core.rules g.N.Naming.given ToPop c.loop.pops.front c.next_row-step.new.pops.front c.next_row-step.result.step (λ h E. IsPop b row (pop_answer E))) (search rules) c.next_row-step.ensures.turned in
    rw none (pop_lost g.C.Core.rules g.N.Naming.given (output_in c.args.aligner.now.publisher) pace.rate pace.layout_every c.next_row-step.result.step row c.loop.pops.front c.next_row-step.new.pops.front (put_by c.loop.writer) turned (c.loop.invariant.7 pace.rate pace.layout_every h))

pub returns-in-Err-clause-asked : goal.returns-in-Err-clause-asked
returns-in-Err-clause-asked g c = λ every now wanted h.
    asked_popped g.C.Core.rules g.N.Naming.given every c.next_row-step.result.step now wanted (λ k E. IsPop c.next_row-step.result.answer c.next_row-step.new.pops.row.value (pop_answer E)) c.loop.pops.front c.next_row-step.new.pops.front c.next_row-step.ensures.turned (c.loop.invariant.12 every now wanted h)

pub returns-in-Err-clause-at : goal.returns-in-Err-clause-at
returns-in-Err-clause-at g c = λ every place adopted h.
    at_popped g.C.Core.rules g.N.Naming.given every c.next_row-step.result.step place adopted (λ k E. IsPop c.next_row-step.result.answer c.next_row-step.new.pops.row.value (pop_answer E)) c.loop.pops.front c.next_row-step.new.pops.front c.next_row-step.ensures.turned (c.loop.invariant.13 every place adopted h)

pub returns-then-not-answer-clause-done : goal.returns-then-not-answer-clause-done
returns-then-not-answer-clause-done g c h =
    let row = c.next_row-step.new.pops.row.value in
    let turned = subst (λ (b : Bool). HasTurned g.C.Core.rules g.N.Naming.given ToPop c.loop.pops.front c.next_row-step.new.pops.front c.next_row-step.result.step (λ h E. IsPop b row (pop_answer E))) (search rules) c.next_row-step.ensures.turned in
    done_none g.C.Core.rules g.N.Naming.given c.next_row-step.result.step row c.loop.pops.front c.next_row-step.new.pops.front turned (c.loop.invariant.16 h)

pub returns-then-not-answer-clause-are_done : goal.returns-then-not-answer-clause-are_done
returns-then-not-answer-clause-are_done g c h =
    done_popped g.C.Core.rules g.N.Naming.given c.next_row-step.result.step (λ k E. IsPop c.next_row-step.result.answer c.next_row-step.new.pops.row.value (pop_answer E)) c.loop.pops.front c.next_row-step.new.pops.front c.next_row-step.ensures.turned (c.loop.invariant.16 h)

pub returns-in-Err-clause-are_done : goal.returns-in-Err-clause-are_done
returns-in-Err-clause-are_done g c h =
    done_popped g.C.Core.rules g.N.Naming.given c.next_row-step.result.step (λ k E. IsPop c.next_row-step.result.answer c.next_row-step.new.pops.row.value (pop_answer E)) c.loop.pops.front c.next_row-step.new.pops.front c.next_row-step.ensures.turned (c.loop.invariant.16 h)
