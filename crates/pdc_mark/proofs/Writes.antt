-- The bytes that the writes of a store make together.
use Rattle.std.proofs.Common.{◌≡◌, ◌⊎◌, inl, inr, ℕ, ◌+◌, ◌<◌, ◌≤◌, Bool, IsTrue, true, false, cond, List, [], ◌∷◌, length, slice_index, replicate, refl, sym, ap, ◌∙◌, arith, rules}
use Rattle.std.proofs.lemmas.Bool.{cases_lt}
use Rattle.std.proofs.lemmas.List.{ext_get_or, length-append, length-drop, length-replicate, length-take-le, places, same_lists}
use Rattle.pdc_disk.specs.Disk.{written}
use Rattle.pdc_mark.specs.declared.layout.TheConstants.{CLOSED, FIELDS_AT, MARK_LEN, OPEN}
use Rattle.pdc_mark.specs.declared.slot.Place.{Place}
use Rattle.pdc_mark.specs.declared.slot.Slot.{Slot}
use Rattle.pdc_mark.specs.Slots.{fields_of, held_in, is_open, offset_of, other_of}
use Rattle.pdc_mark.specs.Stores.{file_after, with_closed, with_fields, with_gate}
use Rattle.pdc_mark.proofs.Marks.{inside}

-- of two bytes in one place the later stands
written_again : (old : List ℕ) (at a b : ℕ) → at < length old → written (written old at (a ∷ [])) at (b ∷ []) ≡ written old at (b ∷ [])
written_again old at a b low = same_lists _ _ (search (rules, places)) (λ k d h. grind (arith, places))

-- two writes that lie apart may be made in either order
written_apart : (old : List ℕ) (low a high : ℕ) (bytes : List ℕ) → low < high → high ≤ length old → written (written old low (a ∷ [])) high bytes ≡ written (written old high bytes) low (a ∷ [])
written_apart old low a high bytes apart within = same_lists _ _ (search (rules, places)) (λ k d h. grind (arith, places))

module _ (old : List ℕ) (at : ℕ) (bytes : List ℕ) (fits : at + length bytes ≤ length old) where
  length-written : length (written old at bytes) ≡ length old
  length-written = simp (length-append, length-drop) (omega (arith, fits, length-take-le at old (omega (arith, fits))))

  before_written : (i : ℕ) → i < at → slice_index (written old at bytes) i ≡ slice_index old i
  before_written i low = grind (arith, places)

  after_written : (i : ℕ) → at + length bytes ≤ i → slice_index (written old at bytes) i ≡ slice_index old i
  after_written i high = grind (arith, places)

within_replicate : (old : List ℕ) (at n byte : ℕ) → at + n ≤ length old → (i : ℕ) → at ≤ i → i < at + n → slice_index (written old at (replicate n byte)) i ≡ byte
within_replicate old at n byte fits i low high = let size : length (replicate n byte) ≡ n = length-replicate n byte in grind (arith, places)

-- what was written over bytes that were settled, filled with one byte at a stop
pub filled_image : (old new image bytes : List ℕ) (at byte : ℕ) (is_settled : ℕ → Bool) → at + length bytes ≤ length old → new ≡ written old at bytes → ((i : ℕ) → at ≤ i → i < at + length bytes → is_settled i ≡ false)
    → ((i : ℕ) → (i < at) ⊎ (at + length bytes ≤ i) → IsTrue (is_settled i)) → length image ≡ length new → ((i : ℕ) → i < length image → slice_index image i ≡ cond (is_settled i) (slice_index new i) byte)
    → image ≡ written old at (replicate (length bytes) byte)
filled_image old new image bytes at byte is_settled fits made range others long each = ext_get_or 0 image filled (long ∙ ap length made ∙ length-written old at bytes fits ∙ sym (length-written old at full fill)) same
  where
    full : List ℕ
    full = replicate (length bytes) byte

    filled : List ℕ
    filled = written old at full

    fill : at + length full ≤ length old
    fill = omega (arith, fits, length-replicate (length bytes) byte)

    settled : (i : ℕ) → i < length image → is_settled i ≡ true → slice_index image i ≡ slice_index (written old at bytes) i
    settled i within stays = each i within ∙ ap (λ (b : Bool). cond b (slice_index new i) byte) stays ∙ ap (λ (xs : List ℕ). slice_index xs i) made

    same : (i : ℕ) → i < length image → slice_index image i ≡ slice_index filled i
    same i within =
        elim (cases_lt i at) [
          | inl low ↦ settled i within (others i (inl low)) ∙ before_written old at bytes fits i low ∙ sym (before_written old at full fill i low)
          | inr high ↦ elim (cases_lt i (at + length bytes)) [
            | inl inside ↦ each i within ∙ ap (λ (b : Bool). cond b (slice_index new i) byte) (range i high inside) ∙ sym (within_replicate old at (length bytes) byte fits i high inside)
            | inr past ↦ settled i within (others i (inr past)) ∙ after_written old at bytes fits i past ∙ sym (after_written old at full fill i (omega (arith, past, length-replicate (length bytes) byte)))
          ]
        ]

-- whether the gate was closed at first doesn't show in what a whole store leaves
whole_store : (old : List ℕ) (place : Place) (fields : List ℕ) → length old ≡ MARK_LEN → with_gate (with_fields (with_closed old place) place fields) place OPEN ≡ with_gate (with_fields old place fields) place OPEN
whole_store old place fields size = by_gate (is_open old (offset_of place)) refl
  where
    low : offset_of place + FIELDS_AT ≤ length old
    low = omega (arith, size, inside place)

    closed : with_gate (with_fields (with_gate old place CLOSED) place fields) place OPEN ≡ with_gate (with_fields old place fields) place OPEN
    closed =
        ap (λ (bytes : List ℕ). with_gate bytes place OPEN) (written_apart old (offset_of place) CLOSED (offset_of place + FIELDS_AT) fields (omega arith) low)
        ∙ written_again (with_fields old place fields) (offset_of place) CLOSED OPEN (simp (length-append, length-drop) (omega (arith, low, length-take-le (offset_of place + FIELDS_AT) old low)))

    by_gate : (gate : Bool) → is_open old (offset_of place) ≡ gate → with_gate (with_fields (with_closed old place) place fields) place OPEN ≡ with_gate (with_fields old place fields) place OPEN
    by_gate true stands = ap (λ (b : Bool). with_gate (with_fields (cond b (with_gate old place CLOSED) old) place fields) place OPEN) stands ∙ closed
    by_gate false stands = ap (λ (b : Bool). with_gate (with_fields (cond b (with_gate old place CLOSED) old) place fields) place OPEN) stands

-- the three steps make the file of a whole store
pub whole_file : (old ready filled new : List ℕ) (held : Place) (next : Slot) → length old ≡ MARK_LEN → held_in old ≡ held → ready ≡ with_closed old (other_of held) → filled ≡ with_fields ready (other_of held) (fields_of next)
    → new ≡ with_gate filled (other_of held) OPEN → new ≡ file_after old next
whole_file old ready filled new held next size holds closes fills opens =
    opens ∙ ap (λ (bytes : List ℕ). with_gate bytes (other_of held) OPEN) (fills ∙ ap (λ (bytes : List ℕ). with_fields bytes (other_of held) (fields_of next)) closes)
    ∙ whole_store old (other_of held) (fields_of next) size
    ∙ ap (λ (p : Place). with_gate (with_fields old (other_of p) (fields_of next)) (other_of p) OPEN) (sym holds)
