-- Counters of a life worked out.
use Rattle.std.specs.Prelude.{◌≡◌, ◌-◌, [], ◌∷◌, ◌++◌, refl, replicate}
use Rattle.pdc_life.specs.pdc_frame.declared.fault.FrameFault.TheVariants.{Short}
use Rattle.pdc_life.specs.declared.outcome.Outcome.{Outcome}
use Rattle.pdc_life.specs.declared.outcome.Outcome.TheVariants.{Candidate, Known, Refused, Taken}
use Rattle.pdc_life.specs.declared.outcome.Refusal.TheVariants.{Late, NoFrame}
use Rattle.pdc_life.specs.Answer.{bare}
use Rattle.pdc_life.specs.declared.outcome.TheConstants.{CAUSES}
use Rattle.pdc_life.specs.Arrival.{BytesRefused}
use Rattle.pdc_life.specs.Life.{Arrive, Entry, Pop}
use Rattle.std.specs.Prelude.{None}
use Rattle.pdc_arrival.specs.Counts.{counts_after}

-- an arrival that is answered so; what arrived is no matter of counting
abbrev answered_so : Outcome → Entry
answered_so outcome = Arrive 0 [] (BytesRefused Late) (bare outcome)

-- two were taken, one was a candidate, one known, three were refused: one for its length, two for coming late; a pop is not counted
worked : counts_after
    (answered_so (Refused Late) ∷ Pop None ∷ answered_so Taken ∷ answered_so (Refused (NoFrame Short)) ∷ answered_so Known
    ∷ answered_so (Refused Late) ∷ answered_so Taken ∷ answered_so Candidate ∷ [])
    ≡ record {
      taken = 2;
      candidate = 1;
      known = 1;
      refused = 3;
      causes = 1 ∷ replicate 21 0 ++ 2 ∷ replicate (CAUSES - 23) 0;
    }
worked = refl
