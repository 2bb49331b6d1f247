use Rattle.std.proofs.Common.{rules, ◌≡◌, ℕ, List, ap, refl, subst, sym, true, ◌∙◌}
use Rattle.pdc_aligner.specs.Device.{standing_of}
use Rattle.pdc_aligner.specs.Sequence.{Rises, instants_of}
use Rattle.pdc_aligner.proofs.Laying.{are_done_of, done_begins}
use Rattle.pdc_hub.specs.declared.fault.HubFault.TheVariants.{NoMemory}
use Rattle.pdc_hub.specs.Pops.{popped_by}
use Rattle.pdc_log.specs.Log.{ticks_of}
use Rattle.pdc_pipe.specs.Writing.{put_by}
use Rattle.pdc_publisher.specs.Publisher.{last_in, mark_in, output_in}
use Rattle.pdc_threads.proofs.Outcomes.{anyway, begun_life, ended_or_not, gives_from, none_laid, none_popped, none_put, none_ticked, unharmed}
use Rattle.pdc_threads.proofs.runs.align_or_close.Goals as goal

pub align-requires-clause-front : goal.align-requires-clause-front
align-requires-clause-front g c = (c.requires.begun, begun_life g.C.Core.rules g.N.Naming.given c.args.aligner.now.pops.front c.requires.given c.requires.begun)

pub returns-then-not-complete : goal.returns-then-not-complete
returns-then-not-complete g c =
    let old = c.args.aligner.now in
    let rules_of = g.C.Core.rules in
    let named = g.N.Naming.given in
    let put = put_by c.close-closed.new.writer in
    let ended = c.close-closed.result in
    let marked = ended_or_not (put_by old.writer) put ended c.requires.begins.1 c.close-closed.ensures.put c.close-closed.ensures.not in
    let begun = begun_life rules_of named old.pops.front c.requires.given c.requires.begun in
    record {
      same = c.close-closed.ensures.same;
      rising = subst (λ (ns : List ℕ). Rises (last_in old.publisher) ns (g.M.Mark.stored (mark_in old.publisher)).floor) (sym (ap instants_of marked ∙ none_put ended)) c.requires.floor;
      published = tt;
      laid = tt;
      but = rw (ap (λ p. p.front) c.close.ensures.kept) (none_laid rules_of named (output_in old.publisher) c.args.pace.rate c.args.pace.layout_every old.pops.front ended put marked begun);
      ticked = rw (ap (λ p. p.front) c.close.ensures.kept) (none_ticked g.I.Ticker.gave old.ticker (g.M.Mark.stored (mark_in old.publisher)).counts NoMemory old.pops.front c.requires.begun);
      turns = ap (λ p. p.turns.parts) c.close.ensures.kept;
      done = tt;
      are_done = rw (ap (λ p. p.front) c.close.ensures.kept) (are_done_of rules_of named old.pops.front (done_begins rules_of named old.pops.front begun));
      kept = (refl, refl);
      all = rw c.close.ensures.kept (none_popped (popped_by old.pops) NoMemory ended put marked);
      complete = tt;
      causes = search rules;
      device = unharmed (standing_of old.publisher);
    }

pub returns : goal.returns
returns g c =
    let old = c.args.aligner.now in
    let new = c.align.new.aligner in
    let aligned = c.align.ensures in
    let goes : c.args.complete ≡ true = search rules in
    record {
      same = aligned.same;
      rising = aligned.rising;
      published = aligned.published;
      laid = aligned.laid;
      but = aligned.but;
      ticked = gives_from g.I.Ticker.gave old.ticker new.ticker (g.M.Mark.stored (mark_in old.publisher)).counts (g.M.Mark.stored (mark_in new.publisher)).counts (ticks_of new.pops.front) c.align.result.outcome aligned.ticked;
      turns = aligned.turns;
      done = aligned.done;
      are_done = aligned.are_done;
      kept = (aligned.output, aligned.lead);
      all = aligned.all;
      complete = anyway c.align.result.outcome goes;
      causes = λ e. aligned.causes;
      device = aligned.device;
    }
