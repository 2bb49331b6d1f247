-- Which mark bytes have, by their gates, and which one a stop leaves of a disk that holds one.
use Rattle.std.proofs.Common.{◌≡◌, ◌⊎◌, inl, inr, ℕ, ◌+◌, ◌<◌, ◌≤◌, Bool, true, false, cond, List, Option, Some, None, refl, sym, subst, ap, ◌∙◌, arith}
use Rattle.std.proofs.lemmas.Bool.Decides.{nat_tests}
use Rattle.pdc_disk.specs.Disk.{AllSettled, Leaves}
use Rattle.pdc_mark.specs.declared.layout.TheConstants.{FIELDS_END, MARK_LEN, SLOT_LEN}
use Rattle.pdc_mark.specs.declared.slot.Slot.{Slot}
use Rattle.pdc_mark.specs.declared.stored.Stored.{Stored}
use Rattle.pdc_mark.specs.declared.slot.Place.{Place}
use Rattle.pdc_mark.specs.declared.slot.Place.TheVariants.{First, Second}
use Rattle.pdc_mark.specs.Slots.{offset_of, other_of, slot_at, is_open, greatest, held_in, mark_of, place_of, HasJust, IsHeld}
use Rattle.pdc_mark.specs.Counts.{are_below}
use Rattle.pdc_mark.specs.Stored.{is_below}
use Rattle.pdc_mark.proofs.Images.{settled_image}
use Rattle.pdc_mark.proofs.Counts.{are_below_asym}

-- the two slots lie apart
pub apart : (place : Place) → (offset_of place + FIELDS_END ≤ offset_of (other_of place)) ⊎ (offset_of (other_of place) + FIELDS_END ≤ offset_of place)
apart First = inl (omega arith)
apart Second = inr (omega arith)

-- and within the file
pub inside : (place : Place) → offset_of place + FIELDS_END < MARK_LEN
inside First = omega arith
inside Second = omega arith

pub other_of-other_of : (place : Place) → other_of (other_of place) ≡ place
other_of-other_of First = refl
other_of-other_of Second = refl

-- the mark by the gates and the fields behind them
pick : Bool → Bool → Slot → Slot → Option Slot
pick x y a b = greatest (cond x (Some a) None) (cond y (Some b) None)

by_gates : (bytes : List ℕ) (x y : Bool) (a b : Slot) → is_open bytes 0 ≡ x → is_open bytes SLOT_LEN ≡ y → slot_at bytes 0 ≡ a → slot_at bytes SLOT_LEN ≡ b → mark_of bytes ≡ pick x y a b
unfolding pick
by_gates bytes x y a b first second here there =
    ap (λ (g : Bool). pick g (is_open bytes SLOT_LEN) (slot_at bytes 0) (slot_at bytes SLOT_LEN)) first
    ∙ ap (λ (g : Bool). pick x g (slot_at bytes 0) (slot_at bytes SLOT_LEN)) second
    ∙ ap (λ (s : Slot). pick x y s (slot_at bytes SLOT_LEN)) here
    ∙ ap (λ (s : Slot). pick x y a s) there

-- one gate is open
pub mark_alone : (bytes : List ℕ) (place : Place) → is_open bytes (offset_of place) ≡ true → is_open bytes (offset_of (other_of place)) ≡ false
    → mark_of bytes ≡ Some (slot_at bytes (offset_of place))
unfolding pick
mark_alone bytes First here there = by_gates bytes true false _ _ here there refl refl
mark_alone bytes Second here there = by_gates bytes false true _ _ there here refl refl

-- the place of the mark, by the same
pick_place : Bool → Bool → Slot → Slot → Place
pick_place x y a b = place_of (cond x (Some a) None) (cond y (Some b) None)

place_by_gates : (bytes : List ℕ) (x y : Bool) → is_open bytes 0 ≡ x → is_open bytes SLOT_LEN ≡ y → held_in bytes ≡ pick_place x y (slot_at bytes 0) (slot_at bytes SLOT_LEN)
unfolding pick_place
place_by_gates bytes x y first second =
    ap (λ (g : Bool). pick_place g (is_open bytes SLOT_LEN) (slot_at bytes 0) (slot_at bytes SLOT_LEN)) first
    ∙ ap (λ (g : Bool). pick_place x g (slot_at bytes 0) (slot_at bytes SLOT_LEN)) second

pub held_alone : (bytes : List ℕ) (place : Place) → is_open bytes (offset_of place) ≡ true → is_open bytes (offset_of (other_of place)) ≡ false → held_in bytes ≡ place
unfolding pick_place
held_alone bytes First here there = place_by_gates bytes true false here there
held_alone bytes Second here there = place_by_gates bytes false true there here

is_below_asym : (a b : Stored) → is_below a b ≡ true → is_below b a ≡ false
is_below_asym a b below = let back : are_below a.counts b.counts ≡ true → are_below b.counts a.counts ≡ false = are_below_asym a.counts b.counts in grind (arith, nat_tests)

-- both are open, and the other slot is the greater
pub mark_above : (bytes : List ℕ) (place : Place) → is_open bytes (offset_of place) ≡ true → is_open bytes (offset_of (other_of place)) ≡ true
    → is_below (slot_at bytes (offset_of place)).stored (slot_at bytes (offset_of (other_of place))).stored ≡ true
    → mark_of bytes ≡ Some (slot_at bytes (offset_of (other_of place)))
unfolding pick
mark_above bytes First here there below =
    by_gates bytes true true _ _ here there refl refl ∙ ap (λ (b : Bool). cond b (Some (slot_at bytes SLOT_LEN)) (Some (slot_at bytes 0))) below
mark_above bytes Second here there below =
    by_gates bytes true true _ _ there here refl refl ∙ ap (λ (b : Bool). cond b (Some (slot_at bytes SLOT_LEN)) (Some (slot_at bytes 0))) (is_below_asym (slot_at bytes SLOT_LEN).stored (slot_at bytes 0).stored below)

pub held_above : (bytes : List ℕ) (place : Place) → is_open bytes (offset_of place) ≡ true → is_open bytes (offset_of (other_of place)) ≡ true
    → is_below (slot_at bytes (offset_of place)).stored (slot_at bytes (offset_of (other_of place))).stored ≡ true → held_in bytes ≡ other_of place
unfolding pick_place
held_above bytes First here there below = place_by_gates bytes true true here there ∙ ap (λ (b : Bool). cond b Second First) below
held_above bytes Second here there below =
    place_by_gates bytes true true there here ∙ ap (λ (b : Bool). cond b Second First) (is_below_asym (slot_at bytes SLOT_LEN).stored (slot_at bytes 0).stored below)

-- the same gates before the same fields
pub mark_same : (old new : List ℕ) (place : Place) → is_open new (offset_of place) ≡ is_open old (offset_of place) → is_open new (offset_of (other_of place)) ≡ is_open old (offset_of (other_of place))
    → slot_at new (offset_of place) ≡ slot_at old (offset_of place) → slot_at new (offset_of (other_of place)) ≡ slot_at old (offset_of (other_of place)) → mark_of new ≡ mark_of old
unfolding pick
mark_same old new First here there a b = by_gates new _ _ _ _ here there a b
mark_same old new Second here there a b = by_gates new _ _ _ _ there here b a

pub has_image : (seen : List ℕ) (is_settled : ℕ → Bool) (slot : Slot) → AllSettled is_settled → HasJust slot seen → Leaves seen is_settled (HasJust slot)
has_image seen is_settled slot all has image left = subst (HasJust slot) (sym (settled_image seen image is_settled all left)) has

pub held_image : (seen : List ℕ) (is_settled : ℕ → Bool) (place : Place) (is_closed : Bool) (slot : Slot) → IsHeld seen is_settled place is_closed → slot_at seen (offset_of place) ≡ slot
    → Leaves seen is_settled (HasJust slot)
held_image seen is_settled place is_closed slot held told = has_image seen is_settled slot held.settled record { size = held.size; holds = held.mark ∙ ap Some told }
