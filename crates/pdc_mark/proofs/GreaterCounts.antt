-- The greater of each two counts are those that a mark is raised to.
use Rattle.std.proofs.Common.{◌≡◌, ℕ, suc, ◌≤◌, List, [], ◌∷◌, length, max, slice_index, Option, None, Some, IfSome, IfNone, refl, sym, ap, ◌∙◌, arith}
use Rattle.std.proofs.Math.Nat.{max-eq_left}
use Rattle.pdc_mark.specs.Counts.{IsGreater, raised_to}

all_greater : (xs ys zs : List ℕ) → length xs ≡ length zs → length ys ≡ length zs → ((i : ℕ) → slice_index zs i ≡ max (slice_index xs i) (slice_index ys i))
    → zs ≡ raised_to xs ys
all_greater [] [] [] a b each = refl
all_greater [] (y ∷ ys) [] a b each = absurd (omega (arith, b))
all_greater (x ∷ xs) ys [] a b each = absurd (omega (arith, a))
all_greater [] ys (z ∷ zs) a b each = absurd (omega (arith, a))
all_greater (x ∷ xs) [] (z ∷ zs) a b each = absurd (omega (arith, b))
all_greater (x ∷ xs) (y ∷ ys) (z ∷ zs) a b each =
    ap (λ (v : ℕ). v ∷ zs) (each 0) ∙ ap (λ (vs : List ℕ). max x y ∷ vs) (all_greater xs ys zs (omega (arith, a)) (omega (arith, b)) (λ k. each (suc k)))

none_greater : (xs ys : List ℕ) → length xs ≡ length ys → ((i : ℕ) → slice_index ys i ≤ slice_index xs i) → xs ≡ raised_to xs ys
none_greater [] [] a below = refl
none_greater [] (y ∷ ys) a below = absurd (omega (arith, a))
none_greater (x ∷ xs) [] a below = absurd (omega (arith, a))
none_greater (x ∷ xs) (y ∷ ys) a below =
    ap (λ (v : ℕ). v ∷ xs) (sym (max-eq_left (below 0))) ∙ ap (λ (vs : List ℕ). max x y ∷ vs) (none_greater xs ys (omega (arith, a)) (λ k. below (suc k)))

pub some_raised : (xs ys : List ℕ) (r : Option (List ℕ)) → length xs ≡ 16 → length ys ≡ 16 → IfSome r (IsGreater xs ys) → IfSome r (λ zs. zs ≡ raised_to xs ys)
some_raised xs ys None a b greater = tt
some_raised xs ys (Some zs) a b greater = all_greater xs ys zs (a ∙ sym greater.size) (b ∙ sym greater.size) greater.each

pub none_raised : (xs ys : List ℕ) (r : Option (List ℕ)) → length xs ≡ 16 → length ys ≡ 16 → IfNone r ((i : ℕ) → slice_index ys i ≤ slice_index xs i) → IfNone r (xs ≡ raised_to xs ys)
none_raised xs ys None a b below = none_greater xs ys (a ∙ sym b) below
none_raised xs ys (Some zs) a b below = tt

still_greater : (xs ys : List ℕ) → length xs ≡ 16 → ((i : ℕ) → slice_index ys i ≤ slice_index xs i) → IsGreater xs ys xs
still_greater xs ys a below = record { size = a; each = λ i. sym (max-eq_left (below i)) }

pub stays : (xs ys : List ℕ) (r : Option (List ℕ)) → length xs ≡ 16 → IfNone r ((i : ℕ) → slice_index ys i ≤ slice_index xs i) → IfNone r (IsGreater xs ys xs)
stays xs ys None a below = still_greater xs ys a below
stays xs ys (Some zs) a below = tt
