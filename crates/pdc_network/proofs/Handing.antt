-- A sink was handed one frame more.
use Rattle.std.proofs.Common.{◌≡◌, ◌+◌, ◌≤◌, ℕ, ℤ, List, [], ◌∷◌, ◌++◌, length, ap, arith, ◌∙◌}
use Rattle.std.proofs.lemmas.List.{append-nil, length_push}
use Rattle.std.proofs.lemmas.List.Concat.{flat_map-append}
use Rattle.std.specs.List.{flat_map}
use Rattle.std.specs.Prelude.{⊤, Ok, Err}
use Rattle.pdc_network.specs.Sent.{Sent, Hand, whole_of}
use Rattle.pdc_network.specs.Handed.{HasTaken, WasHanded}
use Rattle.pdc_network.specs.declared.destination.Destination.{Destination}

-- which went out whole
pub whole : {S : Type 0} (sent : S → S → List Sent → Type 0) (before now later : Destination S) (failed_before failed : ℕ) (frames : List (List ℕ)) (bytes : List ℕ) (none : ⊤)
    (has : HasTaken sent before now failed_before failed frames) →
    WasHanded sent before later (has.hands ++ record { frame = bytes; outcome = Ok none } ∷ []) →
    HasTaken sent before later failed_before failed (frames ++ bytes ∷ [])
whole sent before now later failed_before failed frames bytes none has handed =
    let one : Hand = record { frame = bytes; outcome = Ok none } in
    record {
      hands = has.hands ++ one ∷ [];
      handed = handed;
      whole = flat_map-append whole_of has.hands (one ∷ []) ∙ ap (λ xs. xs ++ bytes ∷ []) has.whole;
      failed = omega (arith, has.failed, length_push frames bytes, length_push has.hands one);
    }

-- which did not, and was counted
pub lost : {S : Type 0} (sent : S → S → List Sent → Type 0) (before now later : Destination S) (failed_before failed failed_later : ℕ) (frames : List (List ℕ)) (bytes : List ℕ) (reason : ℤ)
    (has : HasTaken sent before now failed_before failed frames) → failed_later ≤ failed + 1 →
    WasHanded sent before later (has.hands ++ record { frame = bytes; outcome = Err reason } ∷ []) →
    HasTaken sent before later failed_before failed_later frames
lost sent before now later failed_before failed failed_later frames bytes reason has counted handed =
    let one : Hand = record { frame = bytes; outcome = Err reason } in
    record {
      hands = has.hands ++ one ∷ [];
      handed = handed;
      whole = flat_map-append whole_of has.hands (one ∷ []) ∙ append-nil (flat_map whole_of has.hands) ∙ has.whole;
      failed = omega (arith, has.failed, counted, length_push has.hands one);
    }
