-- What can be told by looking.
use Rattle.std.proofs.Common.{[], ◌<◌, ◌∙◌, ◌∷◌, ◌≡◌, ap, arith, inl, inr, List, None, Option, refl, Some, subst, suc, sym, zero, ℕ}
use Rattle.pdc_world.proofs.HeadlineNames.{◌⊎◌, cases_eq, cases_lt, Contains, head_of, none-some, same_Some, slice_get, slice_get-get_or, slice_index, tail_of}

-- That it did not hold is absurd: so much is had of a world, which keeps no history. What can be told by looking holds then.
abbrev pub CannotFail : Type 0 → Type 0
CannotFail P = (P → ⊥) → ⊥

-- it holds, or it does not
abbrev pub IsTold : Type 0 → Type 0
IsTold P = P ⊎ (P → ⊥)

pub holds : {P : Type 0} → IsTold P → CannotFail P → P
holds (inl p) k = p
holds (inr n) k = absurd (k n)

pub so_does : {P Q : Type 0} → (P → Q) → CannotFail P → CannotFail Q
so_does f k = λ none. k (λ p. none (f p))

pub likewise : {P Q : Type 0} → IsTold P → (P → Q) → (Q → P) → IsTold Q
likewise (inl p) f g = inl (f p)
likewise (inr n) f g = inr (λ q. n (g q))

pub both : {P Q : Type 0} → IsTold P → IsTold Q → IsTold (P × Q)
both (inl p) (inl q) = inl (p, q)
both (inl p) (inr n) = inr (λ x. n x.1)
both (inr n) b = inr (λ x. n x.0)

pub either : {P Q : Type 0} → IsTold P → IsTold Q → IsTold (P ⊎ Q)
either (inl p) b = inl (inl p)
either (inr m) (inl q) = inl (inr q)
either (inr m) (inr n) = inr (elim [ inl p ↦ m p | inr q ↦ n q ])

pub is_number : (a b : ℕ) → IsTold (a ≡ b)
is_number a b = cases_eq a b

pub is_below : (a b : ℕ) → IsTold (a < b)
is_below a b = elim (cases_lt a b) [
  | inl h ↦ inl h
  | inr h ↦ inr (λ l. omega arith)
]

pub are_alike : {X : Type 0} → ((x y : X) → IsTold (x ≡ y)) → (xs ys : List X) → IsTold (xs ≡ ys)
are_alike f [] [] = inl refl
are_alike f (x ∷ xs) (y ∷ ys) = likewise (both (f x y) (are_alike f xs ys)) (λ e i. e.0 i ∷ e.1 i) (λ e. (head_of e, tail_of e))
are_alike f xs ys = inr (λ e. cc)

pub is_list : (xs ys : List ℕ) → IsTold (xs ≡ ys)
is_list xs ys = are_alike is_number xs ys

pub are_lists : (xs ys : List (List ℕ)) → IsTold (xs ≡ ys)
are_lists xs ys = are_alike is_list xs ys

pub is_some_number : (o : Option ℕ) (i : ℕ) → IsTold (o ≡ Some i)
is_some_number None i = inr (λ e. none-some i e)
is_some_number (Some j) i = likewise (is_number j i) (λ e. ap Some e) (λ e. same_Some j i e)

-- each number of the list, and 0 past its end, is below this one
pub are_below : (top : ℕ) (xs : List ℕ) → 0 < top → IsTold ((i : ℕ) → slice_index xs i < top)
are_below top [] h = inl (λ i. h)
are_below top (x ∷ xs) h = likewise (both (is_below x top) (are_below top xs h)) joined (λ f. (f 0, λ i. f (suc i)))
  where
    joined : (x < top) × ((i : ℕ) → slice_index xs i < top) → (i : ℕ) → slice_index (x ∷ xs) i < top
    joined b zero = b.0
    joined b (suc i) = b.1 i

-- an element of the list, with its place
abbrev pub HasOne : {X : Type 0} → (X → Type 0) → List X → Type 0
HasOne {X} P xs = (k : ℕ) × (x : X) × (slice_get xs k ≡ Some x) × P x

pub has_one : {X : Type 0} (P : X → Type 0) → ((x : X) → IsTold (P x)) → (xs : List X) → IsTold (HasOne P xs)
has_one P f [] = inr (λ h. none-some h.1 h.2)
has_one {X} P f (x ∷ xs) = likewise (either (f x) (has_one P f xs)) found apart
  where
    found : P x ⊎ HasOne P xs → HasOne P (x ∷ xs)
    found (inl p) = (0, x, refl, p)
    found (inr h) = (suc h.0, h.1, h.2, h.3)

    at : (k : ℕ) (y : X) → slice_get (x ∷ xs) k ≡ Some y → P y → P x ⊎ HasOne P xs
    at zero y e p = inl (subst P (sym (same_Some x y e)) p)
    at (suc k) y e p = inr (k, y, e, p)

    apart : HasOne P (x ∷ xs) → P x ⊎ HasOne P xs
    apart h = at h.0 h.1 h.2 h.3

-- ---- elements by their places

pub there : {X : Type 0} (xs : List X) (x : X) (c : Contains xs x) → slice_get xs c.0 ≡ Some x
there xs x c = slice_get-get_or xs c.0 x c.1 ∙ ap Some c.2
