-- Numbers from one on.
use Rattle.std.proofs.Common.{append_assoc, arith, cond, filter, length, map, replicate, ◌≡◌, ℕ, ◌+◌, ◌-◌, ◌<◌, ◌&&◌, ◌||◌, Bool, true, false, [], ◌∷◌, ◌++◌, List, Option, Some, None, zero, suc, refl, sym, ap, ◌∙◌}
use Rattle.std.specs.List.{cons_option, filter_map, list_all, list_any, range_with_len}
use Rattle.std.specs.Option.{option_to_list}
use Rattle.std.specs.Prelude.{set}
use Rattle.std.proofs.Math.Seq.{set-append_seam}
use Rattle.std.proofs.lemmas.List.{map-append}
use Rattle.std.proofs.lemmas.List.FromFn.{length-map-range_with_len}

pub range_step : (k n : ℕ) → k < n → range_with_len k (n - k) ≡ k ∷ range_with_len (k + 1) (n - (k + 1))
range_step k n h = let e : n - k ≡ suc (n - (k + 1)) = omega (arith, h) in ap (range_with_len k) e

-- where the first holds, the others tell
pub all_step : (f : ℕ → Bool) (k n : ℕ) → k < n → f k ≡ true → list_all f (range_with_len (k + 1) (n - (k + 1))) ≡ list_all f (range_with_len k (n - k))
all_step f k n h e = sym (ap (list_all f) (range_step k n h) ∙ ap (λ b. b && list_all f (range_with_len (k + 1) (n - (k + 1)))) e)

-- where the first does not hold, the others tell
pub any_step : (f : ℕ → Bool) (k n : ℕ) → k < n → f k ≡ false → list_any f (range_with_len (k + 1) (n - (k + 1))) ≡ list_any f (range_with_len k (n - k))
any_step f k n h e = sym (ap (list_any f) (range_step k n h) ∙ ap (λ b. b || list_any f (range_with_len (k + 1) (n - (k + 1)))) e)

cons_or_not : {A : Type 0} (x : Option A) (xs : List A) → cons_option x xs ≡ option_to_list x ++ xs
cons_or_not None xs = refl
cons_or_not (Some x) xs = refl

-- what the first gives, and then the others
pub filter_map_step : {A : Type 0} (f : ℕ → Option A) (k n : ℕ) → k < n → filter_map f (range_with_len k (n - k)) ≡ option_to_list (f k) ++ filter_map f (range_with_len (k + 1) (n - (k + 1)))
filter_map_step f k n h = ap (filter_map f) (range_step k n h) ∙ cons_or_not (f k) (filter_map f (range_with_len (k + 1) (n - (k + 1))))

-- what was given so far and what one more gives, before what the others give
pub one_more : {A : Type 0} (f : ℕ → Option A) (k n : ℕ) (before after all : List A) (x : Option A) → k < n → x ≡ f k → after ≡ before ++ option_to_list x
    → before ++ filter_map f (range_with_len k (n - k)) ≡ all → after ++ filter_map f (range_with_len (k + 1) (n - (k + 1))) ≡ all
one_more f k n before after all x h e a i =
    ap (λ bs. bs ++ filter_map f (range_with_len (k + 1) (n - (k + 1)))) (a ∙ ap (λ y. before ++ option_to_list y) e)
    ∙ append_assoc before (option_to_list (f k)) (filter_map f (range_with_len (k + 1) (n - (k + 1))))
    ∙ ap (λ bs. before ++ bs) (sym (filter_map_step f k n h)) ∙ i

-- the number, if it is wanted, and then the others
first_wanted : (b : Bool) (k : ℕ) (ks : List ℕ) → cond b (k ∷ ks) ks ≡ cond b (k ∷ []) [] ++ ks
first_wanted true k ks = refl
first_wanted false k ks = refl

-- what was wanted so far and one more, before those of the others that are wanted
pub one_more_wanted : (f : ℕ → Bool) (k n : ℕ) (before after all : List ℕ) (x : Bool) → k < n → x ≡ f k → after ≡ before ++ cond x (k ∷ []) []
    → before ++ filter f (range_with_len k (n - k)) ≡ all → after ++ filter f (range_with_len (k + 1) (n - (k + 1))) ≡ all
one_more_wanted f k n before after all x h e a i =
    ap (λ ks. ks ++ filter f (range_with_len (k + 1) (n - (k + 1)))) (a ∙ ap (λ b. before ++ cond b (k ∷ []) []) e)
    ∙ append_assoc before (cond (f k) (k ∷ []) []) (filter f (range_with_len (k + 1) (n - (k + 1))))
    ∙ ap (λ ks. before ++ ks) (sym (ap (filter f) (range_step k n h) ∙ first_wanted (f k) k (filter f (range_with_len (k + 1) (n - (k + 1))))))
    ∙ i

range_end : (a n : ℕ) → range_with_len a (suc n) ≡ range_with_len a n ++ (a + n) ∷ []
range_end a zero = ap (λ (x : ℕ). x ∷ []) (omega arith)
range_end a (suc n) = ap (λ (xs : List ℕ). a ∷ xs) (range_end (a + 1) n ∙ ap (λ (x : ℕ). range_with_len (a + 1) n ++ x ∷ []) (omega arith))

zeros_step : (k n : ℕ) → k < n → replicate {A = ℕ} (n - k) 0 ≡ 0 ∷ replicate {A = ℕ} (n - (k + 1)) 0
zeros_step k n h = let e : n - k ≡ suc (n - (k + 1)) = omega (arith, h) in ap (λ (m : ℕ). replicate {A = ℕ} m 0) e

-- where zeros follow what was set so far, one more is set in the place of the first of them
pub one_more_set : (f : ℕ → ℕ) (k n : ℕ) (xs : List ℕ) (x : ℕ) → k < n → x ≡ f k → xs ≡ map f (range_with_len 0 k) ++ replicate {A = ℕ} (n - k) 0
    → set xs k x ≡ map f (range_with_len 0 (k + 1)) ++ replicate {A = ℕ} (n - (k + 1)) 0
one_more_set f k n xs x h e i =
    let size : length (map f (range_with_len 0 k)) ≡ k = length-map-range_with_len f 0 k in
    let zeros : List ℕ = replicate {A = ℕ} (n - (k + 1)) 0 in
    let next : k + 1 ≡ suc k = omega arith in
    let last : 0 + k ≡ k = omega arith in
    ap (λ (ys : List ℕ). set ys k x) (i ∙ ap (λ (zs : List ℕ). map f (range_with_len 0 k) ++ zs) (zeros_step k n h))
    ∙ ap (λ (m : ℕ). set (map f (range_with_len 0 k) ++ 0 ∷ zeros) m x) (sym size)
    ∙ set-append_seam (map f (range_with_len 0 k)) 0 zeros x
    ∙ ap (λ (y : ℕ). map f (range_with_len 0 k) ++ y ∷ zeros) e
    ∙ sym (append_assoc (map f (range_with_len 0 k)) (f k ∷ []) zeros)
    ∙ ap (λ (ys : List ℕ). ys ++ zeros) (sym (map-append f (range_with_len 0 k) (k ∷ [])))
    ∙ ap (λ (ks : List ℕ). map f ks ++ zeros) (sym (ap (range_with_len 0) next ∙ range_end 0 k ∙ ap (λ (y : ℕ). range_with_len 0 k ++ y ∷ []) last))
