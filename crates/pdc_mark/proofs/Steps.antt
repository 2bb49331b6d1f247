-- What each step of a store makes of the mark, done or cut short. The mark stands in one place, and the other is written.
use Rattle.std.proofs.Common.{◌≡◌, ◌⊎◌, inl, inr, ℕ, ◌+◌, ◌<◌, ◌≤◌, Bool, true, false, eqb, List, [], ◌∷◌, length, slice_index, slice_range, Some, refl, sym, ap, ◌∙◌, arith}
use Rattle.pdc_disk.specs.Disk.{written, AllSettled, IsTorn}
use Rattle.pdc_mark.specs.declared.layout.TheConstants.{CLOSED, FIELDS_AT, FIELDS_END, FIELDS_LEN, MARK_LEN, OPEN}
use Rattle.pdc_mark.specs.declared.slot.Slot.{Slot}
use Rattle.pdc_mark.specs.declared.slot.Place.{Place}
use Rattle.pdc_mark.specs.Slots.{offset_of, other_of, slot_of, slot_at, is_open, mark_of, HasMark, HasEither, IsHeld}
use Rattle.pdc_mark.specs.Stored.{is_below}
use Rattle.pdc_mark.proofs.Images.{length-torn, slice_range-torn, slice_index-written, slice_range-written}
use Rattle.pdc_mark.proofs.Marks.{apart, held_above, held_alone, inside, other_of-other_of, mark_alone, mark_above, mark_same}

-- n bytes were torn, and neither the gate nor the fields of this slot lie in their range
beside : (old new : List ℕ) (at n : ℕ) (place : Place) → IsTorn old at n new → length old ≡ MARK_LEN → at + n < MARK_LEN → (offset_of place + FIELDS_END ≤ at) ⊎ (at + n ≤ offset_of place)
    → (is_open new (offset_of place) ≡ is_open old (offset_of place)) × (slot_at new (offset_of place) ≡ slot_at old (offset_of place))
beside old new at n place torn size end (inl below) = (
  ap (λ b. eqb b OPEN) (torn.before (offset_of place) (omega arith)),
  ap slot_of (slice_range-torn old new at n torn (omega arith) (offset_of place + FIELDS_AT) (offset_of place + FIELDS_END) (inl below)),
)
beside old new at n place torn size end (inr above) = (
  ap (λ b. eqb b OPEN) (torn.after (offset_of place) above),
  ap slot_of (slice_range-torn old new at n torn (omega arith) (offset_of place + FIELDS_AT) (offset_of place + FIELDS_END) (inr (omega arith))),
)

-- n bytes in the other slot were torn: this one stays as it is
module _ (old : List ℕ) (was_settled : ℕ → Bool) (place : Place) (is_closed : Bool) (held : IsHeld old was_settled place is_closed) (at n : ℕ) (low : offset_of (other_of place) ≤ at) (high : at + n ≤ offset_of (other_of place) + FIELDS_END) where
  ends : at + n < MARK_LEN
  ends = omega (arith, inside (other_of place))

  apart_from : (offset_of place + FIELDS_END ≤ at) ⊎ (at + n ≤ offset_of place)
  apart_from = elim (apart place) [ inl below ↦ inl (omega arith) | inr above ↦ inr (omega arith) ]

  pub here_open : (new : List ℕ) → IsTorn old at n new → is_open new (offset_of place) ≡ true
  here_open new torn = (beside old new at n place torn held.size ends apart_from).0 ∙ held.here

  pub here_same : (new : List ℕ) → IsTorn old at n new → slot_at new (offset_of place) ≡ slot_at old (offset_of place)
  here_same new torn = (beside old new at n place torn held.size ends apart_from).1

  pub size_same : (new : List ℕ) → IsTorn old at n new → length new ≡ MARK_LEN
  size_same new torn = length-torn old new at n torn (omega (arith, held.size, ends)) ∙ held.size

  -- the mark is the old one where the other gate is closed
  pub old_where_closed : (new : List ℕ) → IsTorn old at n new → is_open new (offset_of (other_of place)) ≡ false → HasMark new (Some (slot_at old (offset_of place)))
  old_where_closed new torn closed = record {
    size = size_same new torn;
    holds = mark_alone new place (here_open new torn) closed ∙ ap Some (here_same new torn);
  }

-- the gate of the other slot was torn: its fields stay as they are
module _ (old : List ℕ) (was_settled : ℕ → Bool) (place : Place) (is_closed : Bool) (held : IsHeld old was_settled place is_closed) where
  gate_ends : offset_of (other_of place) + 1 ≤ offset_of (other_of place) + FIELDS_END
  gate_ends = omega arith

  there_same : (new : List ℕ) → IsTorn old (offset_of (other_of place)) 1 new → slot_at new (offset_of (other_of place)) ≡ slot_at old (offset_of (other_of place))
  there_same new torn =
      ap slot_of (slice_range-torn old new (offset_of (other_of place)) 1 torn (omega (arith, held.size, inside (other_of place))) (offset_of (other_of place) + FIELDS_AT) (offset_of (other_of place) + FIELDS_END) (inr (omega arith)))

-- 1. the gate is closed, or was to be
module _ (old : List ℕ) (was_settled : ℕ → Bool) (place : Place) (held : IsHeld old was_settled place false) where
  pub closing_torn : (new : List ℕ) → IsTorn old (offset_of (other_of place)) 1 new → HasMark new (Some (slot_at old (offset_of place)))
  closing_torn new torn = at_gate (is_open new (offset_of (other_of place))) refl
    where
      at_gate : (gate : Bool) → is_open new (offset_of (other_of place)) ≡ gate → HasMark new (Some (slot_at old (offset_of place)))
      at_gate false closed = old_where_closed old was_settled place false held (offset_of (other_of place)) 1 (omega arith) (omega arith) new torn closed
      at_gate true stays = record {
        size = size_same old was_settled place false held (offset_of (other_of place)) 1 (omega arith) (omega arith) new torn;
        holds =
            mark_same old new place
            (here_open old was_settled place false held (offset_of (other_of place)) 1 (omega arith) (omega arith) new torn ∙ sym held.here)
            (stays ∙ sym held.other)
            (here_same old was_settled place false held (offset_of (other_of place)) 1 (omega arith) (omega arith) new torn)
            (there_same old was_settled place false held new torn)
            ∙ held.mark;
      }

  pub closing_here : (new : List ℕ) → IsTorn old (offset_of (other_of place)) 1 new → slot_at new (offset_of place) ≡ slot_at old (offset_of place)
  closing_here new torn = here_same old was_settled place false held (offset_of (other_of place)) 1 (omega arith) (omega arith) new torn

  pub closing_done : (new : List ℕ) (is_settled : ℕ → Bool) → IsTorn old (offset_of (other_of place)) 1 new → AllSettled is_settled
      → new ≡ written old (offset_of (other_of place)) (CLOSED ∷ []) → IsHeld new is_settled place true
  closing_done new is_settled torn all made =
      let gate : slice_index new (offset_of (other_of place)) ≡ CLOSED =
      ap (λ (bytes : List ℕ). slice_index bytes (offset_of (other_of place))) made ∙ slice_index-written old (offset_of (other_of place)) CLOSED (omega (arith, held.size, inside (other_of place))) in
      let closed : is_open new (offset_of (other_of place)) ≡ false = ap (λ b. eqb b OPEN) gate in
      let same = here_same old was_settled place false held (offset_of (other_of place)) 1 (omega arith) (omega arith) new torn in
      let alone = old_where_closed old was_settled place false held (offset_of (other_of place)) 1 (omega arith) (omega arith) new torn closed in
      record {
        size = alone.size;
        settled = all;
        here = here_open old was_settled place false held (offset_of (other_of place)) 1 (omega arith) (omega arith) new torn;
        mark = alone.holds ∙ ap Some (sym same);
        holds = held_alone new place (here_open old was_settled place false held (offset_of (other_of place)) 1 (omega arith) (omega arith) new torn) closed;
        other = closed;
      }

-- 2. the fields behind the closed gate are written, or were to be
module _ (old : List ℕ) (was_settled : ℕ → Bool) (place : Place) (held : IsHeld old was_settled place true) where
  still_closed : (new : List ℕ) → IsTorn old (offset_of (other_of place) + FIELDS_AT) FIELDS_LEN new → is_open new (offset_of (other_of place)) ≡ false
  still_closed new torn = ap (λ b. eqb b OPEN) (torn.before (offset_of (other_of place)) (omega arith)) ∙ held.other

  pub fields_torn : (new : List ℕ) → IsTorn old (offset_of (other_of place) + FIELDS_AT) FIELDS_LEN new → HasMark new (Some (slot_at old (offset_of place)))
  fields_torn new torn = old_where_closed old was_settled place true held (offset_of (other_of place) + FIELDS_AT) FIELDS_LEN (omega arith) (omega arith) new torn (still_closed new torn)

  pub fields_here : (new : List ℕ) → IsTorn old (offset_of (other_of place) + FIELDS_AT) FIELDS_LEN new → slot_at new (offset_of place) ≡ slot_at old (offset_of place)
  fields_here new torn = here_same old was_settled place true held (offset_of (other_of place) + FIELDS_AT) FIELDS_LEN (omega arith) (omega arith) new torn

  pub fields_done : (new : List ℕ) (is_settled : ℕ → Bool) → IsTorn old (offset_of (other_of place) + FIELDS_AT) FIELDS_LEN new → AllSettled is_settled → IsHeld new is_settled place true
  fields_done new is_settled torn all =
      let alone = fields_torn new torn in
      record {
        size = alone.size;
        settled = all;
        here = here_open old was_settled place true held (offset_of (other_of place) + FIELDS_AT) FIELDS_LEN (omega arith) (omega arith) new torn;
        mark = alone.holds ∙ ap Some (sym (fields_here new torn));
        holds = held_alone new place (here_open old was_settled place true held (offset_of (other_of place) + FIELDS_AT) FIELDS_LEN (omega arith) (omega arith) new torn) (still_closed new torn);
        other = still_closed new torn;
      }

  pub fields_there : (new fields : List ℕ) (next : Slot) → length fields ≡ FIELDS_LEN → slot_of fields ≡ next
      → new ≡ written old (offset_of (other_of place) + FIELDS_AT) fields → slot_at new (offset_of (other_of place)) ≡ next
  fields_there new fields next size says made =
      let at = offset_of (other_of place) + FIELDS_AT in
      let end : at + length fields ≡ offset_of (other_of place) + FIELDS_END = omega (arith, size) in
      ap (λ (bytes : List ℕ). slot_at bytes (offset_of (other_of place))) made
      ∙ ap (λ n. slot_of (slice_range (written old at fields) at n)) (sym end)
      ∙ ap slot_of (slice_range-written old at fields (omega (arith, held.size, inside (other_of place))))
      ∙ says

-- 3. the gate is opened, or was to be, on fields that are above the mark
module _ (old : List ℕ) (was_settled : ℕ → Bool) (place : Place) (held : IsHeld old was_settled place true) (below : is_below (slot_at old (offset_of place)).stored (slot_at old (offset_of (other_of place))).stored ≡ true) where
  pub opening_there : (new : List ℕ) → IsTorn old (offset_of (other_of place)) 1 new → slot_at new (offset_of (other_of place)) ≡ slot_at old (offset_of (other_of place))
  opening_there new torn = there_same old was_settled place true held new torn

  still_below : (new : List ℕ) → IsTorn old (offset_of (other_of place)) 1 new → is_below (slot_at new (offset_of place)).stored (slot_at new (offset_of (other_of place))).stored ≡ true
  still_below new torn =
      let same = here_same old was_settled place true held (offset_of (other_of place)) 1 (omega arith) (omega arith) new torn in
      ap (λ (a : Slot). is_below a.stored (slot_at new (offset_of (other_of place))).stored) same ∙ ap (λ (b : Slot). is_below (slot_at old (offset_of place)).stored b.stored) (opening_there new torn) ∙ below

  both_open : (new : List ℕ) → IsTorn old (offset_of (other_of place)) 1 new → is_open new (offset_of (other_of place)) ≡ true → mark_of new ≡ Some (slot_at new (offset_of (other_of place)))
  both_open new torn stands =
      mark_above new place (here_open old was_settled place true held (offset_of (other_of place)) 1 (omega arith) (omega arith) new torn) stands (still_below new torn)

  pub opening_torn : (new : List ℕ) → IsTorn old (offset_of (other_of place)) 1 new → HasEither (slot_at old (offset_of place)) (slot_at old (offset_of (other_of place))) new
  opening_torn new torn = at_gate (is_open new (offset_of (other_of place))) refl
    where
      at_gate : (gate : Bool) → is_open new (offset_of (other_of place)) ≡ gate → HasEither (slot_at old (offset_of place)) (slot_at old (offset_of (other_of place))) new
      at_gate false closed = inl (old_where_closed old was_settled place true held (offset_of (other_of place)) 1 (omega arith) (omega arith) new torn closed)
      at_gate true stands = inr record {
        size = size_same old was_settled place true held (offset_of (other_of place)) 1 (omega arith) (omega arith) new torn;
        holds = both_open new torn stands ∙ ap Some (opening_there new torn);
      }

  pub opening_done : (new : List ℕ) (is_settled : ℕ → Bool) → IsTorn old (offset_of (other_of place)) 1 new → AllSettled is_settled
      → new ≡ written old (offset_of (other_of place)) (OPEN ∷ []) → IsHeld new is_settled (other_of place) false
  opening_done new is_settled torn all made =
      let gate : slice_index new (offset_of (other_of place)) ≡ OPEN =
      ap (λ (bytes : List ℕ). slice_index bytes (offset_of (other_of place))) made ∙ slice_index-written old (offset_of (other_of place)) OPEN (omega (arith, held.size, inside (other_of place))) in
      let stands : is_open new (offset_of (other_of place)) ≡ true = ap (λ b. eqb b OPEN) gate in
      let first : is_open new (offset_of place) ≡ true = here_open old was_settled place true held (offset_of (other_of place)) 1 (omega arith) (omega arith) new torn in
      record {
        size = size_same old was_settled place true held (offset_of (other_of place)) 1 (omega arith) (omega arith) new torn;
        settled = all;
        here = stands;
        mark = both_open new torn stands;
        holds = held_above new place first stands (still_below new torn);
        other = ap (λ (p : Place). is_open new (offset_of p)) (other_of-other_of place) ∙ first;
      }
