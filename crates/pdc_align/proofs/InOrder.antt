-- What numbers give, one after the other.
use Rattle.std.proofs.Common.{append_assoc, arith, ◌≡◌, ℕ, ◌+◌, ◌-◌, ◌<◌, ◌∷◌, ◌++◌, List, Option, Some, None, suc, refl, sym, ap, ◌∙◌}
use Rattle.std.specs.List.{cons_option, filter_map, range_with_len}
use Rattle.std.specs.Option.{option_to_list}

range_step : (k n : ℕ) → k < n → range_with_len k (n - k) ≡ k ∷ range_with_len (k + 1) (n - (k + 1))
range_step k n h = let e : n - k ≡ suc (n - (k + 1)) = omega (arith, h) in ap (range_with_len k) e

cons_or_not : {A : Type 0} (x : Option A) (xs : List A) → cons_option x xs ≡ option_to_list x ++ xs
cons_or_not None xs = refl
cons_or_not (Some x) xs = refl

-- what the first gives, and then the others
filter_map_step : {A : Type 0} (f : ℕ → Option A) (k n : ℕ) → k < n → filter_map f (range_with_len k (n - k)) ≡ option_to_list (f k) ++ filter_map f (range_with_len (k + 1) (n - (k + 1)))
filter_map_step f k n h = ap (filter_map f) (range_step k n h) ∙ cons_or_not (f k) (filter_map f (range_with_len (k + 1) (n - (k + 1))))

-- what was given so far and what one more gives, before what the others give
pub one_more : {A : Type 0} (f : ℕ → Option A) (k n : ℕ) (before after all : List A) (x : Option A) → k < n → x ≡ f k → after ≡ before ++ option_to_list x
    → before ++ filter_map f (range_with_len k (n - k)) ≡ all → after ++ filter_map f (range_with_len (k + 1) (n - (k + 1))) ≡ all
one_more f k n before after all x h e a i =
    ap (λ bs. bs ++ filter_map f (range_with_len (k + 1) (n - (k + 1)))) (a ∙ ap (λ y. before ++ option_to_list y) e)
    ∙ append_assoc before (option_to_list (f k)) (filter_map f (range_with_len (k + 1) (n - (k + 1))))
    ∙ ap (λ bs. before ++ bs) (sym (filter_map_step f k n h)) ∙ i
