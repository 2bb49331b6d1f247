-- Slots and instants: the computing twins are the relations.
use Rattle.std.proofs.Common.{◌≡◌, ℕ, ◌+◌, ◌*◌, ◌<◌, ◌↔◌, Option, Some, None, ◌&&◌, nat_lt, option_map, arith, refl, sym, ap, ◌∙◌}
use Rattle.std.proofs.lemmas.Bool.Decides.{nat_tests}
use Rattle.std.proofs.lemmas.Option.{cond_some, none-some, same_Some}
use Rattle.pdc_frame.specs.Nearest.{nearest_of}
use Rattle.pdc_frame.specs.Slot.{IsSlot, slot_of, distance_of}
use Rattle.pdc_frame.specs.Instant.{IsInstant, instant_of}
use Rattle.pdc_frame.proofs.NearestLemmas.{IsNearest-from_half, IsHalfOff-nearest_of, unique_nearest, nearest_of-is}

pub slot_of-IsSlot : (frac time_base rate k : ℕ) → IsSlot frac time_base rate k → slot_of frac time_base rate ≡ Some k
unfolding slot_of
slot_of-IsSlot frac time_base rate k h =
    let e : nearest_of (frac * rate) time_base ≡ k = nearest_of-is (frac * rate) time_base k (let l : frac < time_base = h.in_second in omega arith) h.nearest in
    let d : distance_of frac time_base rate k < rate = h.within_count in
    let l : frac < time_base = h.in_second in
    rw e (grind (arith, nat_tests))

-- the nearest multiple, where it is a slot
IsSlot-nearest_of : (frac time_base rate : ℕ) → frac < time_base → distance_of frac time_base rate (nearest_of (frac * rate) time_base) < rate → IsSlot frac time_base rate (nearest_of (frac * rate) time_base)
IsSlot-nearest_of frac time_base rate l d = record {
  in_second = l;
  nearest = IsNearest-from_half (frac * rate) time_base (nearest_of (frac * rate) time_base) (IsHalfOff-nearest_of (frac * rate) time_base (omega arith));
  within_count = d;
}

pub IsSlot-slot_of : (frac time_base rate k : ℕ) → slot_of frac time_base rate ≡ Some k → IsSlot frac time_base rate k
unfolding slot_of
IsSlot-slot_of frac time_base rate k h =
    let found = cond_some (nat_lt frac time_base && nat_lt (distance_of frac time_base rate (nearest_of (frac * rate) time_base)) rate) (nearest_of (frac * rate) time_base) k h in
    let l : frac < time_base = grind (arith, nat_tests, found.0) in
    let d : distance_of frac time_base rate (nearest_of (frac * rate) time_base) < rate = grind (arith, nat_tests, found.0) in
    rw found.1 at (IsSlot-nearest_of frac time_base rate l d)

pub unique_slot : (frac time_base rate k j : ℕ) → IsSlot frac time_base rate k → IsSlot frac time_base rate j → k ≡ j
unique_slot frac time_base rate k j h i = unique_nearest (frac * rate) time_base k j h.nearest i.nearest

-- none, where there is no slot
pub slot_of-none : (frac time_base rate : ℕ) → (slot_of frac time_base rate ≡ None) ↔ ((k : ℕ) → ¬ (IsSlot frac time_base rate k))
slot_of-none frac time_base rate =
    (λ none k h. none-some k (sym none ∙ slot_of-IsSlot frac time_base rate k h), λ free. go (slot_of frac time_base rate) refl free)
  where
    go : (o : Option ℕ) → slot_of frac time_base rate ≡ o → ((k : ℕ) → ¬ (IsSlot frac time_base rate k)) → slot_of frac time_base rate ≡ None
    go None e free = e
    go (Some k) e free = absurd (free k (IsSlot-slot_of frac time_base rate k e))

pub instant_of-IsInstant : (soc frac time_base rate i : ℕ) → IsInstant soc frac time_base rate i → instant_of soc frac time_base rate ≡ Some i
unfolding instant_of
instant_of-IsInstant soc frac time_base rate i h =
    ap (option_map (λ k. soc * rate + k)) (slot_of-IsSlot frac time_base rate h.slot h.is_slot) ∙ ap Some (sym h.is_instant)

pub IsInstant-instant_of : (soc frac time_base rate i : ℕ) → instant_of soc frac time_base rate ≡ Some i → IsInstant soc frac time_base rate i
unfolding instant_of
IsInstant-instant_of soc frac time_base rate i h = go (slot_of frac time_base rate) refl h
  where
    go : (o : Option ℕ) → slot_of frac time_base rate ≡ o → option_map (λ k. soc * rate + k) o ≡ Some i → IsInstant soc frac time_base rate i
    go None e h = absurd (none-some i h)
    go (Some k) e h = record { slot = k; is_slot = IsSlot-slot_of frac time_base rate k e; is_instant = sym (same_Some (soc * rate + k) i h) }

pub instant_of-none : (soc frac time_base rate : ℕ) → (instant_of soc frac time_base rate ≡ None) ↔ ((k : ℕ) → ¬ (IsSlot frac time_base rate k))
unfolding instant_of
instant_of-none soc frac time_base rate =
    (λ none k h. none-some (soc * rate + k) (sym none ∙ ap (option_map (λ n. soc * rate + n)) (slot_of-IsSlot frac time_base rate k h)), λ free. ap (option_map (λ n. soc * rate + n)) ((slot_of-none frac time_base rate).1 free))
