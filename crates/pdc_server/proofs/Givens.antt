-- What the frames above an instant are to the reader who asked for them.
use Rattle.std.proofs.Common.{◌≡◌, refl, inl, inr, ℕ, ◌<◌, List, [], ◌∷◌, ◌++◌}
use Rattle.std.specs.Prelude.{Bool, true, false, cond, nat_lt}
use Rattle.std.proofs.lemmas.Bool.{ltb-true}
use Rattle.std.proofs.Math.Logic.{∥∥₁_map}
use Rattle.pdc_session.specs.Recent.{AreAbove, AreRising, Kept, above, bytes_of, greatest_of}
use Rattle.pdc_server.specs.Given.{IsGiven}
use Rattle.pdc_server.specs.Places.{Takes}
use Rattle.pdc_server.specs.Stream.{AreData, IsLayout, Stream}
use Rattle.pdc_server.specs.declared.place.Place.{Place}
use Rattle.pdc_server.specs.declared.place.Seen.TheVariants.{Layout}
use Rattle.pdc_server.specs.declared.stamp.Stamp.{Stamp}

-- those above an instant are
above_is_above : (instant : ℕ) (frames : List Kept) → AreAbove instant (above instant frames)
above_is_above instant [] = tt
above_is_above instant (f ∷ fs) =
    let rest = above_is_above instant fs in
    let both : (b : Bool) → (b ≡ true → instant < f.instant) → AreAbove instant (cond b (f ∷ above instant fs) (above instant fs)) =
    λ b. elim b as (λ (b : Bool). (b ≡ true → instant < f.instant) → AreAbove instant (cond b (f ∷ above instant fs) (above instant fs))) [ true ↦ λ lt. (lt refl, rest) | false ↦ λ lt. rest ] in
    both (nat_lt instant f.instant) (ltb-true instant f.instant)

-- and data frames where all are
above_are_data : (stream : Stream) (stamp : Stamp) (instant : ℕ) (frames : List Kept) → AreData stream stamp frames → AreData stream stamp (above instant frames)
above_are_data stream stamp instant [] all = tt
above_are_data stream stamp instant (f ∷ fs) all =
    let rest = above_are_data stream stamp instant fs all.1 in
    let both : (b : Bool) → AreData stream stamp (cond b (f ∷ above instant fs) (above instant fs)) =
    λ b. elim b as (λ (b : Bool). AreData stream stamp (cond b (f ∷ above instant fs) (above instant fs))) [ true ↦ (all.0, rest) | false ↦ rest ] in
    both (nat_lt instant f.instant)

pub given : (stream : Stream) (stamp : Stamp) (before now : Place) (out grown : List ℕ) (frames : List Kept) → Takes before.seen stamp → now.seen ≡ Layout stamp → ∥ AreData stream stamp frames ∥₁
    → grown ≡ out ++ bytes_of (above before.got frames) → now.got ≡ greatest_of before.got (above before.got frames) → AreRising (above before.got frames)
    → IsGiven stream before out now grown
given stream stamp before now out grown frames takes seen all bytes greatest rising = inl (record {
  stamp = stamp;
  takes = takes;
  seen = seen;
  frames = above before.got frames;
  appended = bytes;
  rising = rising;
  later = above_is_above before.got frames;
  are_data = ∥∥₁_map all (above_are_data stream stamp before.got frames);
  greatest = greatest;
})

pub told : (stream : Stream) (stamp : Stamp) (before now : Place) (out grown layout : List ℕ) → now.seen ≡ Layout stamp → now.got ≡ before.got → ∥ IsLayout stream stamp layout ∥₁ → grown ≡ out ++ layout
    → IsGiven stream before out now grown
told stream stamp before now out grown layout seen got is_layout appended = inr (record { stamp = stamp; seen = seen; got = got; layout = layout; is_layout = is_layout; appended = appended })
