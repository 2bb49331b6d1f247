-- Numbers set one after the other before zeros.
use Rattle.std.proofs.Common.{◌≡◌, ℕ, ◌+◌, ◌-◌, ◌<◌, ◌≤◌, List, [], ◌∷◌, ◌++◌, get_or, length, map, replicate, set, take, sym, ◌∙◌, ap, arith, suc, length-take-le}
use Rattle.std.proofs.Math.Seq.{set-append_seam}
use Rattle.std.proofs.lemmas.List.{append_assoc, length-map, map_more}

zeros_step : (k n : ℕ) → k < n → replicate {A = ℕ} (n - k) 0 ≡ 0 ∷ replicate {A = ℕ} (n - (k + 1)) 0
zeros_step k n h = let e : n - k ≡ suc (n - (k + 1)) = omega (arith, h) in ap (λ (m : ℕ). replicate {A = ℕ} m 0) e

-- where zeros follow what the first k give, what the next gives is set in the place of the first of them
pub one_more_set : {A : Type 0} (f : A → ℕ) (items : List A) (d : A) (k n : ℕ) (xs : List ℕ) (x : ℕ) → k < length items → length items ≤ n → x ≡ f (get_or items k d)
    → xs ≡ map f (take k items) ++ replicate {A = ℕ} (n - k) 0
    → set xs k x ≡ map f (take (k + 1) items) ++ replicate {A = ℕ} (n - (k + 1)) 0
one_more_set f items d k n xs x h l e i =
    let size : length (map f (take k items)) ≡ k = length-map (take k items) f ∙ length-take-le k items (omega (arith, h)) in
    let zeros : List ℕ = replicate {A = ℕ} (n - (k + 1)) 0 in
    ap (λ (ys : List ℕ). set ys k x) (i ∙ ap (λ (zs : List ℕ). map f (take k items) ++ zs) (zeros_step k n (omega (arith, h, l))))
    ∙ ap (λ (m : ℕ). set (map f (take k items) ++ 0 ∷ zeros) m x) (sym size)
    ∙ set-append_seam (map f (take k items)) 0 zeros x
    ∙ ap (λ (y : ℕ). map f (take k items) ++ y ∷ zeros) e
    ∙ sym (append_assoc (map f (take k items)) (f (get_or items k d) ∷ []) zeros)
    ∙ ap (λ (ys : List ℕ). ys ++ zeros) (sym (map_more f items k d h))
