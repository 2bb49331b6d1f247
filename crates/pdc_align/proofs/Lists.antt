-- Lists that a function makes of others.
use Rattle.std.proofs.Common.{◌≡◌, ℕ, ◌+◌, ◌<◌, ◌==◌, ◌||◌, Bool, true, false, List, [], ◌∷◌, map, filter, cond, set, refl, sym, ap, ◌∙◌, arith, zero, suc}
use Rattle.std.specs.Prelude.{if◌then◌else◌}
use Rattle.std.specs.List.{AllByRecursion, list_any, range_with_len}
use Rattle.std.proofs.lemmas.Bool.{eq-eqb, ne_eqb}

-- two functions that agree make the same list
pub map_alike : {X : Type 0} (f h : ℕ → X) (ns : List ℕ) → AllByRecursion (λ n. f n ≡ h n) ns → map f ns ≡ map h ns
map_alike f h [] a = refl
map_alike f h (n ∷ ns) a = ap (λ x. x ∷ map f ns) a.0 ∙ ap (λ xs. h n ∷ xs) (map_alike f h ns a.1)

pub at_all : (P : ℕ → Type 0) → ((n : ℕ) → P n) → (ns : List ℕ) → AllByRecursion P ns
at_all P h [] = tt
at_all P h (n ∷ ns) = (h n, at_all P h ns)

pub map_same : {X : Type 0} (f h : ℕ → X) → ((n : ℕ) → f n ≡ h n) → (ns : List ℕ) → map f ns ≡ map h ns
map_same f h e ns = map_alike f h ns (at_all (λ n. f n ≡ h n) e ns)

pub map_twice : {X Y : Type 0} (h : X → Y) (f : ℕ → X) (ns : List ℕ) → map h (map f ns) ≡ map (λ n. h (f n)) ns
map_twice h f [] = refl
map_twice h f (n ∷ ns) = ap (λ ys. h (f n) ∷ ys) (map_twice h f ns)

-- a filter of what a function made
kept : {X : Type 0} (f : ℕ → X) (b : Bool) (n : ℕ) (ns : List ℕ) → cond b (f n ∷ map f ns) (map f ns) ≡ map f (cond b (n ∷ ns) ns)
kept f true n ns = refl
kept f false n ns = refl

pub filter_map_is : {X : Type 0} (p : X → Bool) (q : ℕ → Bool) (f : ℕ → X) → ((n : ℕ) → p (f n) ≡ q n) → (ns : List ℕ) → filter p (map f ns) ≡ map f (filter q ns)
filter_map_is p q f h [] = refl
filter_map_is p q f h (n ∷ ns) =
    ap (λ b. cond b (f n ∷ filter p (map f ns)) (filter p (map f ns))) (h n)
    ∙ ap (λ xs. cond (q n) (f n ∷ xs) xs) (filter_map_is p q f h ns)
    ∙ kept f (q n) n (filter q ns)

-- a function with another value at one number
abbrev pub set_at : {X : Type 0} → ℕ → X → (ℕ → X) → ℕ → X
set_at d v f n = if d == n then v else f n

-- a function with another value at these numbers
abbrev pub set_all : {X : Type 0} → List ℕ → X → (ℕ → X) → ℕ → X
set_all ds v f n = if list_any (λ d. d == n) ds then v else f n

-- past the number nothing is set
same_above : {X : Type 0} (f : ℕ → X) (v : X) (d k n : ℕ) → d < k → map f (range_with_len k n) ≡ map (set_at d v f) (range_with_len k n)
same_above f v d k zero h = refl
same_above f v d k (suc n) h =
    ap (λ x. x ∷ map f (range_with_len (k + 1) n)) (ap (λ b. if b then v else f k) (sym (ne_eqb d k (λ e. omega (arith, h, e)))))
    ∙ ap (λ xs. set_at d v f k ∷ xs) (same_above f v d (k + 1) n (omega (arith, h)))

set_from : {X : Type 0} (f : ℕ → X) (v : X) (d k n e : ℕ) → e ≡ k + d → set (map f (range_with_len k n)) d v ≡ map (set_at e v f) (range_with_len k n)
set_from f v d k zero e h = refl
set_from f v zero k (suc n) e h =
    ap (λ x. x ∷ map f (range_with_len (k + 1) n)) (ap (λ b. if b then v else f k) (sym (eq-eqb e k (omega (arith, h)))))
    ∙ ap (λ xs. set_at e v f k ∷ xs) (same_above f v e (k + 1) n (omega (arith, h)))
set_from f v (suc d) k (suc n) e h =
    ap (λ x. x ∷ set (map f (range_with_len (k + 1) n)) d v) (ap (λ b. if b then v else f k) (sym (ne_eqb e k (λ q. omega (arith, h, q)))))
    ∙ ap (λ xs. set_at e v f k ∷ xs) (set_from f v d (k + 1) n e (omega (arith, h)))

-- one place of what a function made
pub set_range : {X : Type 0} (f : ℕ → X) (v : X) (d n : ℕ) → set (map f (range_with_len 0 n)) d v ≡ map (set_at d v f) (range_with_len 0 n)
set_range f v d n = set_from f v d 0 n d (omega arith)

-- one number more
pub set_more : {X : Type 0} (d : ℕ) (ds : List ℕ) (v : X) (f : ℕ → X) (n : ℕ) → set_all ds v (set_at d v f) n ≡ set_all (d ∷ ds) v f n
set_more d ds v f n = more (d == n) (list_any (λ e. e == n) ds)
  where
    more : (a b : Bool) → (if b then v else (if a then v else f n)) ≡ (if a || b then v else f n)
    more true true = refl
    more true false = refl
    more false b = refl
