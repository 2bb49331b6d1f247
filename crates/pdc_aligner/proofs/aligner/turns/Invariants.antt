use Rattle.std.proofs.Common.{◌≡◌, ◌<◌, ◌+◌, length}
use Rattle.pdc_hub.specs.Pops.{popped_by}
use Rattle.pdc_pipe.specs.Writing.{IsOpen, put_by}
use Rattle.pdc_log.specs.Log.{ticks_of}
use Rattle.pdc_aligner.specs.Laid.{IsAt, IsDone, IsLaid}
use Rattle.pdc_aligner.specs.Turns.{HasGiven}
use Rattle.pdc_aligner.proofs.Ticking.{IsTicking}
use Rattle.pdc_aligner.specs.Sequence.{instants_of, Rises}
use Rattle.pdc_publisher.specs.Publisher.{last_in, lead_in, mark_in, output_in}
use Rattle.pdc_aligner.specs.Device.{standing_of}
use Rattle.pdc_aligner.proofs.Devices.{IsSound}
use Rattle.pdc_aligner.proofs.aligner.turns.Given as goal

abbrev pub invariant-loop : goal.invariant-loop
invariant-loop g l =
    (l.aligner.writer.to ≡ l.initial.aligner.writer.to) × IsOpen l.aligner.writer
    × (l.aligner.pops.top.parts ≡ l.initial.aligner.pops.top.parts) × (last_in l.aligner.publisher ≡ l.aligner.pops.top.amount)
    × (output_in l.aligner.publisher ≡ output_in l.initial.aligner.publisher)
    × (popped_by l.aligner.pops ≡ l.first + length (instants_of (put_by l.aligner.writer)))
    × Rises (last_in l.initial.aligner.publisher) (instants_of (put_by l.aligner.writer)) (last_in l.aligner.publisher)
    × (l.place < l.every)
    × IsLaid g.C.Core.rules g.N.Naming.given (output_in l.initial.aligner.publisher) l.pace.rate l.pace.layout_every l.aligner.pops.front (put_by l.aligner.writer)
    × IsSound (standing_of l.initial.aligner.publisher) (standing_of l.aligner.publisher)
    × (lead_in l.aligner.publisher ≡ lead_in l.initial.aligner.publisher)
    × IsAt g.C.Core.rules g.N.Naming.given l.pace.layout_every l.aligner.pops.front l.adopted l.place
    × (l.aligner.pops.turns.parts ≡ l.initial.aligner.pops.turns.parts)
    × IsTicking (HasGiven g.K.Ticker.gave l.initial.aligner.ticker l.aligner.ticker) (g.M.Mark.stored (mark_in l.initial.aligner.publisher)).counts (g.M.Mark.stored (mark_in l.aligner.publisher)).counts (ticks_of l.aligner.pops.front)
    × IsDone g.C.Core.rules g.N.Naming.given l.aligner.pops.front
