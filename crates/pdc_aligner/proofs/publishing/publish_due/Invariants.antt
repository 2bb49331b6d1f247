use Rattle.std.proofs.Common.{◌≡◌, ◌+◌, Bool, List, ℕ, length}
use Rattle.pdc_hub.specs.Pops.{popped_by}
use Rattle.pdc_pipe.specs.Writing.{IsOpen, put_by}
use Rattle.pdc_aligner.specs.Device.{standing_of}
use Rattle.pdc_aligner.proofs.Devices.{IsSound}
use Rattle.pdc_aligner.specs.Sequence.{instants_of, Rises}
use Rattle.pdc_log.specs.Log.{ticks_of}
use Rattle.pdc_aligner.specs.Laid.{AreDone, IsAsked, IsAt, IsLaid}
use Rattle.pdc_publisher.specs.Publisher.{last_in, lead_in, mark_in, output_in}
use Rattle.pdc_aligner.proofs.publishing.publish_due.Given as goal

abbrev pub invariant-loop : goal.invariant-loop
invariant-loop g l =
    (l.writer.to ≡ l.initial.writer.to) × IsOpen l.writer
    × (l.pops.top.parts ≡ l.initial.pops.top.parts) × (last_in l.publisher ≡ l.pops.top.amount)
    × (output_in l.publisher ≡ output_in l.initial.publisher)
    × (popped_by l.pops + length (instants_of (put_by l.initial.writer)) ≡ popped_by l.initial.pops + length (instants_of (put_by l.writer)))
    × ((low : ℕ) → Rises low (instants_of (put_by l.initial.writer)) (last_in l.initial.publisher) → Rises low (instants_of (put_by l.writer)) (last_in l.publisher))
    × ((rate every : ℕ) → IsLaid g.C.Core.rules g.N.Naming.given (output_in l.initial.publisher) rate every l.initial.pops.front (put_by l.initial.writer) → IsLaid g.C.Core.rules g.N.Naming.given (output_in l.initial.publisher) rate every l.pops.front (put_by l.writer))
    × ((g.M.Mark.stored (mark_in l.publisher)).counts ≡ (g.M.Mark.stored (mark_in l.initial.publisher)).counts)
    × IsSound (standing_of l.initial.publisher) (standing_of l.publisher)
    × ((nows : List ℕ) → g.K.Ticker.gave l.initial.ticker nows → g.K.Ticker.gave l.ticker nows)
    × (lead_in l.publisher ≡ lead_in l.initial.publisher)
    × ((every now : ℕ) (wanted : Bool) → IsAsked g.C.Core.rules g.N.Naming.given every l.initial.pops.front now wanted → IsAsked g.C.Core.rules g.N.Naming.given every l.pops.front now wanted)
    × ((every place : ℕ) (adopted : Bool) → IsAt g.C.Core.rules g.N.Naming.given every l.initial.pops.front adopted place → IsAt g.C.Core.rules g.N.Naming.given every l.pops.front adopted place)
    × (l.pops.turns.parts ≡ l.initial.pops.turns.parts)
    × (ticks_of l.pops.front ≡ ticks_of l.initial.pops.front)
    × (AreDone g.C.Core.rules g.N.Naming.given l.initial.pops.front → AreDone g.C.Core.rules g.N.Naming.given l.pops.front)
