-- What a stop may leave of a disk on which one range was written.
use Rattle.std.proofs.Common.{◌≡◌, ◌⊎◌, inl, inr, ℕ, zero, suc, ◌+◌, ◌-◌, ◌<◌, ◌≤◌, Bool, List, length, slice_index, slice_range, get_or, [], ◌∷◌, ◌++◌, take, drop, refl, sym, ◌∙◌, arith, rules}
use Rattle.std.proofs.lemmas.List.{append-nil, append_assoc, drop_all, drop_at, ext_get_or, length-take-le, places, take_at, get_or_past, get_or-take, get_or-drop, length-append, length-take, length-drop}
use Rattle.std.proofs.lemmas.Bool.Decides.{leb_tells}
use Rattle.pdc_disk.specs.Disk.{written, AllSettled, IsImage, IsTorn, Leaves, StaySettledBut}

-- two lists that agree on a range
pub same_part : (xs ys : List ℕ) (from to : ℕ) → length xs ≡ length ys → ((i : ℕ) → from ≤ i → i < to → slice_index xs i ≡ slice_index ys i)
    → slice_range xs from to ≡ slice_range ys from to
same_part xs ys from to long same =
    ext_get_or 0 (take (to - from) (drop from xs)) (take (to - from) (drop from ys)) (simp (length-take, length-drop, long)) (λ i h.
    let low : i < to - from = omega (arith, h, length-take (to - from) (drop from xs)) in
    let here : get_or xs (from + i) 0 ≡ get_or ys (from + i) 0 = same (from + i) (omega arith) (omega arith) in
    rw (get_or-take (to - from) (drop from xs) i 0 low, get_or-take (to - from) (drop from ys) i 0 low, get_or-drop from xs i 0, get_or-drop from ys i 0) here)

-- the range ends before the last byte
module _ (old new : List ℕ) (at n : ℕ) (torn : IsTorn old at n new) (inside : at + n < length old) where
  pub length-torn : length new ≡ length old
  length-torn = omega (arith, torn.no_shorter, torn.no_longer, inside)

  -- a part that lies beside the range
  pub slice_range-torn : (from to : ℕ) → (to ≤ at) ⊎ (at + n ≤ from) → slice_range new from to ≡ slice_range old from to
  slice_range-torn from to (inl below) = same_part new old from to length-torn (λ i low high. torn.before i (omega arith))
  slice_range-torn from to (inr above) = same_part new old from to length-torn (λ i low high. torn.after i (omega arith))

  -- where all was settled but this range, each image is torn like the disk
  pub torn_image : (was_settled is_settled : ℕ → Bool) → AllSettled was_settled → StaySettledBut at n was_settled is_settled → Leaves new is_settled (IsTorn old at n)
  torn_image was_settled is_settled all stay image left =
      let last : length old - 1 < length image = left.long (length old - 1) (omega (arith, length-torn, inside)) (stay (length old - 1) (inr (omega (arith, inside))) (all (length old - 1))) in
      let long : length image ≡ length old = omega (arith, last, left.no_longer, length-torn, inside) in
      record {
        no_shorter = omega (arith, long);
        no_longer = omega (arith, long);
        before = λ i low. left.same i (omega (arith, long, inside)) (stay i (inl low) (all i)) ∙ torn.before i low;
        after = λ i high. elim (leb_tells (length image) i) [
          | inl past ↦ get_or_past image i 0 past.1 ∙ sym (get_or_past old i 0 (omega (arith, past.1, long)))
          | inr within ↦ left.same i within.1 (stay i (inr high) (all i)) ∙ torn.after i high
        ];
      }

-- a write that is made: what stands in its range
pub slice_range-written : (old : List ℕ) (at : ℕ) (bytes : List ℕ) → at ≤ length old → slice_range (written old at bytes) at (at + length bytes) ≡ bytes
slice_range-written old at bytes low =
    let front : length (take at old) ≡ at = length-take-le at old low in
    let size : at + length bytes - at ≡ length bytes = omega arith in
    rw (size, append_assoc (take at old) bytes (drop (at + length bytes) old), drop_at (take at old) (bytes ++ drop (at + length bytes) old) at front)
    (take_at bytes (drop (at + length bytes) old) (length bytes) refl)

pub slice_index-written : (old : List ℕ) (at byte : ℕ) → at ≤ length old → slice_index (written old at (byte ∷ [])) at ≡ byte
slice_index-written old at byte low = search (rules, places)

-- two parts, one behind the other, over all that there was
pub written_twice : (old first second : List ℕ) (at : ℕ) → length first ≡ at → length old ≤ at + length second → written (written old 0 first) at second ≡ first ++ second
written_twice old first second at size fits =
    let front : take at (first ++ drop (length first) old) ≡ first = take_at first (drop (length first) old) at size in
    let none : drop (at + length second) (first ++ drop (length first) old) ≡ [] =
    drop_all (at + length second) (first ++ drop (length first) old) (simp (length-append, length-drop) (omega (arith, size, fits))) in
    let zero_and : 0 + length first ≡ length first = omega arith in
    rw (zero_and, front, none, append-nil (first ++ second))

-- where all is settled, a stop leaves what is seen
pub settled_image : (seen image : List ℕ) (is_settled : ℕ → Bool) → AllSettled is_settled → IsImage seen is_settled image → image ≡ seen
settled_image seen image is_settled all left = ext_get_or 0 image seen (length_settled (length seen) refl) (λ i within. left.same i within (all i))
  where
    length_settled : (n : ℕ) → length seen ≡ n → length image ≡ length seen
    length_settled zero size = omega (arith, left.no_longer, size)
    length_settled (suc n) size = omega (arith, left.no_longer, left.long n (omega (arith, size)) (all n), size)
