-- One frame more behind the others.
use Rattle.std.proofs.Common.{◌≡◌, ℕ, ◌+◌, ◌-◌, ◌≤◌, List, [], ◌∷◌, ◌++◌, length, take, drop, arith, refl, ap, ap₂, ◌∙◌, length-drop}
use Rattle.std.specs.List.{All}
use Rattle.std.proofs.Math.Seq.{drop-append_seam, take-length}
use Rattle.std.proofs.lemmas.List.{drop-append-le, take-append-le, map-append}
use Rattle.std.proofs.lemmas.List.Elements.{All-head, All-push, All-tail, All-weaker}
use Rattle.pdc_history.specs.declared.frames.Place.{Place}
use Rattle.pdc_history.specs.SentFrames.{IsWithin, frame_at, frames_in}

frame_kept : (B bytes : List ℕ) (place : Place) → IsWithin (length B) place → frame_at (B ++ bytes) place ≡ frame_at B place
frame_kept B bytes place is =
    let order : place.start ≤ place.end = is.order in
    let bound : place.end ≤ length B = is.bound in
    ap (take (place.end - place.start)) (drop-append-le place.start B bytes (omega (arith, order, bound)))
    ∙ take-append-le (place.end - place.start) (drop place.start B) bytes (omega (arith, order, bound, length-drop place.start B))

frames_kept : (B bytes : List ℕ) (places : List Place) → All (IsWithin (length B)) places → frames_in (B ++ bytes) places ≡ frames_in B places
frames_kept B bytes [] all = refl
frames_kept B bytes (place ∷ places) all =
    ap₂ (λ (x : List ℕ) (xs : List (List ℕ)). x ∷ xs) (frame_kept B bytes place (All-head (IsWithin (length B)) place places all))
    (frames_kept B bytes places (All-tail (IsWithin (length B)) place places all))

frame_new : (B bytes : List ℕ) (place : Place) → place.start ≡ length B → place.end ≡ length B + length bytes → frame_at (B ++ bytes) place ≡ bytes
frame_new B bytes place s e =
    let len : place.end - place.start ≡ length bytes = omega (arith, s, e) in
    ap₂ (λ (n : ℕ) (m : ℕ). take n (drop m (B ++ bytes))) len s ∙ ap (take (length bytes)) (drop-append_seam B bytes) ∙ take-length bytes

pub frames_push : (B bytes : List ℕ) (places : List Place) (place : Place) → All (IsWithin (length B)) places → place.start ≡ length B → place.end ≡ length B + length bytes
    → frames_in (B ++ bytes) (places ++ place ∷ []) ≡ frames_in B places ++ bytes ∷ []
frames_push B bytes places place all s e =
    map-append (frame_at (B ++ bytes)) places (place ∷ [])
    ∙ ap₂ (λ (xs : List (List ℕ)) (x : List ℕ). xs ++ x ∷ []) (frames_kept B bytes places all) (frame_new B bytes place s e)

within_more : (n m : ℕ) (place : Place) → IsWithin n place → n ≤ m → IsWithin m place
within_more n m place is h = let bound : place.end ≤ n = is.bound in record { order = is.order; bound = omega (arith, bound, h) }

pub within_push : (n m : ℕ) (places : List Place) (place : Place) → All (IsWithin n) places → n ≤ m → place.start ≡ n → place.end ≡ m → All (IsWithin m) (places ++ place ∷ [])
within_push n m places place all h s e =
    All-push (IsWithin m) places place (All-weaker (IsWithin n) (IsWithin m) (λ x is. within_more n m x is h) places all)
    (record { order = omega (arith, s, e, h); bound = omega (arith, e) })
