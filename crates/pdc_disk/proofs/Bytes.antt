-- Lists of flags and bytes, place by place.
use Rattle.std.proofs.Common.{◌≡◌, ℕ, zero, suc, ◌+◌, ◌≤◌, ◌<◌, ◌++◌, [], ◌∷◌, max, true, List, length, take, get_or, replicate, refl, sym, ap, subst, ◌∙◌, rules, arith}
use Rattle.std.proofs.lemmas.List.{append-nil, append_assoc, drop-append-le, take-append-le, length-append, length-take, length-drop, length-replicate, places, same_lists}
use Rattle.pdc_disk.specs.Disk.{written, IsTorn}

-- a list of flags that are all set
pub get_or-replicate_true : (n i : ℕ) → get_or (replicate n true) i true ≡ true
get_or-replicate_true zero i = refl
get_or-replicate_true (suc n) zero = refl
get_or-replicate_true (suc n) (suc i) = get_or-replicate_true n i

-- a write within an array whose first n places are the disk's
pub take-written : (n : ℕ) (old : List ℕ) (at : ℕ) (new : List ℕ) → at ≤ n → n ≤ length old → at + length new ≤ length old
    → take (max n (at + length new)) (written old at new) ≡ written (take n old) at new
take-written n old at new low fits room = same_lists _ _ (search (rules, places)) (λ k d h. grind (arith, places))

-- a write that is made changes nothing but its range
pub IsTorn-written : (old : List ℕ) (at : ℕ) (new : List ℕ) → at ≤ length old → IsTorn old at (length new) (written old at new)
IsTorn-written old at new low = record {
  no_shorter = simp (length-append, length-take, length-drop) (omega arith);
  no_longer = simp (length-append, length-take, length-drop) (omega arith);
  before = λ i h. grind (arith, places);
  after = λ i h. grind (arith, places);
}

-- a write over the front of a list, which its rest outlasts where there is one
pub written-append : (front : List ℕ) (at : ℕ) (new rest : List ℕ) → at ≤ length front → (0 < length rest → at + length new ≤ length front)
    → written front at new ++ rest ≡ written (front ++ rest) at new
written-append front at new [] low room = rw (append-nil (written front at new), append-nil front)
written-append front at new (byte ∷ rest) low room =
    let fits : at + length new ≤ length front = room (omega arith) in
    rw (take-append-le at front (byte ∷ rest), drop-append-le (at + length new) front (byte ∷ rest), append_assoc (take at front ++ new))

-- where bytes stand past those that are told, those are full
pub low_where_told : (told untold at : ℕ) → (0 < untold → told ≡ 256) → at ≤ told + untold → at ≤ 256 → at ≤ told
low_where_told told zero at full low fits = omega arith
low_where_told told (suc untold) at full low fits = let all : told ≡ 256 = full (omega arith) in omega arith

-- a write over bytes that are told, before those that aren't
pub torn_known : (known : List ℕ) (untold at : ℕ) (bytes new : List ℕ) → at + length bytes ≤ 256 → (0 < untold → length known ≡ 256) → at ≤ length (known ++ replicate untold 0)
    → new ≡ written known at bytes → IsTorn (known ++ replicate untold 0) at (length bytes) (new ++ replicate untold 0)
torn_known known untold at bytes new told full low made =
    let rest : List ℕ = replicate untold 0 in
    let size : length (known ++ rest) ≡ length known + untold = length-append known rest ∙ ap (λ n. length known + n) (length-replicate untold 0) in
    let within : at ≤ length known = low_where_told (length known) untold at full (subst (λ n. at ≤ n) size low) (omega (arith, told)) in
    let room : 0 < length rest → at + length bytes ≤ length known = λ some. let all : length known ≡ 256 = full (subst (λ n. 0 < n) (length-replicate untold 0) some) in omega (arith, all, told) in
    let seen = ap (λ (front : List ℕ). front ++ rest) made ∙ written-append known at bytes rest within room in
    subst (λ (whole : List ℕ). IsTorn (known ++ rest) at (length bytes) whole) (sym seen) (IsTorn-written (known ++ rest) at bytes low)
