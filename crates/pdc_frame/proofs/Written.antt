-- A frame that was written, at the front of a piece, is given at its last byte, and written frames are the frames of their
-- stream.
use Rattle.std.proofs.Common.{suc, [], ◌∷◌, Option, ◌≡◌, ◌≢◌, ℕ, ◌≤◌, List, ◌++◌, length, take, drop, refl, ap, ◌∙◌, arith}
use Rattle.std.specs.Prelude.{flat_map, map}
use Rattle.std.specs.List.{All}
use Rattle.std.proofs.lemmas.List.{take_all, length-take, take-append-drop}
use Rattle.std.proofs.lemmas.List.Elements.{All-cons}
use Rattle.pdc_frame.specs.declared.fault.FrameFault.{FrameFault}
use Rattle.pdc_frame.specs.declared.step.Step.{Step}
use Rattle.pdc_frame.specs.declared.step.Step.TheVariants.{More, Whole, Bad}
use Rattle.pdc_frame.specs.Frame.{Fields, Fits, spelling_of}
use Rattle.pdc_frame.specs.Stream.{IsAt, IsWhole, IsRest, Splits}
use Rattle.pdc_frame.proofs.Streams.{one_end, no_end, whole-ends, bad-ends}

written_whole : (f : Fields) → Fits f → IsWhole (spelling_of f)
written_whole f fits = (f, record { fits = fits; spelled = refl })

ended : (f : Fields) (rest piece new : List ℕ) (n : ℕ) (step : Step) → step ≢ More → Fits f → piece ≡ spelling_of f ++ rest → n ≤ length piece → new ≡ take n piece → IsAt new step
    → (n ≡ length (spelling_of f)) × (step ≡ Whole) × (new ≡ spelling_of f)
ended f rest piece new n step ends fits piece-is le new-is at =
    let same : new ++ drop n piece ≡ spelling_of f ++ rest = ap (λ (xs : List ℕ). xs ++ drop n piece) new-is ∙ take-append-drop n piece ∙ piece-is in
    let found : (new ≡ spelling_of f) × (step ≡ Whole) × (drop n piece ≡ rest) = one_end new (drop n piece) (spelling_of f) rest step Whole ends whole-ends at (written_whole f fits) same in
    (omega (arith, ap length new-is, ap length found.0, length-take n piece), found.1, found.0)

pub written_found : (f : Fields) (rest piece new : List ℕ) (n : ℕ) (step : Step) → Fits f → piece ≡ spelling_of f ++ rest → n ≤ length piece → new ≡ take n piece → IsAt new step
    → (step ≡ More → n ≡ length piece) → (n ≡ length (spelling_of f)) × (step ≡ Whole) × (new ≡ spelling_of f)
written_found f rest piece new n More fits piece-is le new-is at more =
    let all : take n piece ≡ piece = take_all n piece (omega (arith, more refl)) in
    absurd (no_end new (spelling_of f) rest Whole whole-ends at (written_whole f fits) (new-is ∙ all ∙ piece-is))
written_found f rest piece new n Whole fits piece-is le new-is at more = ended f rest piece new n Whole whole-ends fits piece-is le new-is at
written_found f rest piece new n (Bad fault) fits piece-is le new-is at more = ended f rest piece new n (Bad fault) (bad-ends fault) fits piece-is le new-is at

frames_joined : (fs : List Fields) → flat_map spelling_of fs ≡ flat_map (λ (frame : List ℕ). frame) (map spelling_of fs)
frames_joined [] = refl
frames_joined (f ∷ fs) = ap (λ (xs : List ℕ). spelling_of f ++ xs) (frames_joined fs)

frames_whole : (fs : List Fields) → All Fits fs → All IsWhole (map spelling_of fs)
frames_whole [] fit = λ k d lt. absurd (omega arith)
frames_whole (f ∷ fs) fit = All-cons IsWhole (spelling_of f) (map spelling_of fs) (written_whole f (fit 0 f (omega arith))) (frames_whole fs (λ k d lt. fit (suc k) d (omega arith)))

pub written_split : (fs : List Fields) (rest : List ℕ) (fault : Option FrameFault) → All Fits fs → IsRest rest fault → Splits (flat_map spelling_of fs ++ rest) (map spelling_of fs) rest fault
written_split fs rest fault fit end = record { whole = ap (λ (xs : List ℕ). xs ++ rest) (frames_joined fs); each = frames_whole fs fit; end = end }
