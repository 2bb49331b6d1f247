-- What holds of all of a list, of a part of it, and of the first that a test finds; and tests of numbers.
use Rattle.pdc_life.proofs.Names.{[], ◌&&◌, ◌++◌, ◌+◌, ◌<◌, ◌∙◌, ◌∷◌, ◌≡◌, ◌≤◌, All-contains, All-from_recursion, AllByRecursion, ap, arith, Bool, Candidate, cond_both, Contains, eqb, false, false≢true, filter, find, is_candidate, is_taken, leb, length, List, list_any, map, nat_eq, None, none-some, not, Option, or_parts, other_text, Outcome, pointwise, refl, Rises, rules, same_Some, same_text, slice_get, slice_index_or, Some, subst, suc, sym, Taken, true, zero, ℕ}

-- what holds, where there is one
abbrev pub May : {A : Type 0} → (A → Type 0) → Option A → Type 0
May P None = Unit {0}
May P (Some x) = P x

pub may_each : {A : Type 0} (P Q : A → Type 0) (o : Option A) → ((x : A) → P x → Q x) → May P o → May Q o
may_each P Q None k h = tt
may_each P Q (Some x) k h = k x h

pub heads : {A : Type 0} (x y : A) (xs ys : List A) → x ∷ xs ≡ y ∷ ys → (x ≡ y) × (xs ≡ ys)
heads x y xs ys e =
    let one : x ≡ y = cc in
    let rest : xs ≡ ys = cc in
    (one, rest)

pub appended : {A : Type 0} (P : A → Type 0) (xs more : List A) → AllByRecursion P xs → AllByRecursion P more → AllByRecursion P (xs ++ more)
appended P [] more a b = b
appended P (x ∷ xs) more a b = (a.0, appended P xs more a.1 b)

pub front_part : {A : Type 0} (P : A → Type 0) (xs more : List A) → AllByRecursion P (xs ++ more) → AllByRecursion P xs × AllByRecursion P more
front_part P [] more a = (tt, a)
front_part P (x ∷ xs) more a = let rest = front_part P xs more a.1 in ((a.0, rest.0), rest.1)

pub each : {A : Type 0} (P Q : A → Type 0) (xs : List A) → ((x : A) → P x → Q x) → AllByRecursion P xs → AllByRecursion Q xs
each P Q [] k a = tt
each P Q (x ∷ xs) k a = (k x a.0, each P Q xs k a.1)

pub filtered : {A : Type 0} (f : A → Bool) (P Q : A → Type 0) (xs : List A) → ((x : A) → f x ≡ true → P x → Q x) → AllByRecursion P xs
    → AllByRecursion Q (filter f xs)
filtered f P Q [] k a = tt
filtered f P Q (x ∷ xs) k a =
    cond_both (f x) (x ∷ filter f xs) (filter f xs) (AllByRecursion Q) (λ e. (k x e a.0, filtered f P Q xs k a.1)) (λ e. filtered f P Q xs k a.1)

pub of_each : {A : Type 0} (P : A → Type 0) (xs : List A) (x : A) → AllByRecursion P xs → Contains xs x → P x
of_each P xs x a k = All-contains P xs x (All-from_recursion P xs a) k

pub later_in : {A : Type 0} (x : A) (xs : List A) (y : A) → Contains xs y → Contains (x ∷ xs) y
later_in x xs y k = (suc k.0, omega (arith, k.1), k.2)

pub first_in : {A : Type 0} (x : A) (xs : List A) → Contains (x ∷ xs) x
first_in x xs = (0, omega arith, refl)

pub contains_at : {A : Type 0} (xs : List A) (k : ℕ) (x : A) → slice_get xs k ≡ Some x → Contains xs x
contains_at [] k x h = absurd (none-some x h)
contains_at (y ∷ xs) zero x h = (0, omega arith, same_Some y x h)
contains_at (y ∷ xs) (suc k) x h = later_in y xs x (contains_at xs k x h)

pub by_each : {A : Type 0} (P : A → Type 0) (xs : List A) → ((x : A) → Contains xs x → P x) → AllByRecursion P xs
by_each P [] h = tt
by_each P (x ∷ xs) h = (h x (first_in x xs), by_each P xs (λ y k. h y (later_in x xs y k)))

-- where columns rise, one that is listed behind lies above
pub above_first : {A : Type 0} (n c : ℕ) (x : A) (parts : List (ℕ × A)) (k : ℕ) → Rises n (map (λ (part : ℕ × A). part.0 + 1) parts) → k < length parts
    → slice_index_or parts k (c, x) ≡ (c, x) → n < c + 1
above_first n c x [] k r l e = absurd (omega (arith, l))
above_first {A = A} n c x (part ∷ parts) zero r l e = let same : part.0 ≡ c = ap (λ (p : ℕ × A). p.0) e in omega (arith, r.0, same)
above_first n c x (part ∷ parts) (suc k) r l e =
    let m : part.0 + 1 < c + 1 = above_first (part.0 + 1) c x parts k r.1 (omega (arith, l)) e in omega (arith, r.0, m)

pub none_passes : {A : Type 0} (f : A → Bool) (xs : List A) → list_any f xs ≡ false → AllByRecursion (λ (x : A). f x ≡ false) xs
none_passes f [] h = tt
none_passes f (x ∷ xs) h = let apart = or_parts (f x) (list_any f xs) h in (apart.0, none_passes f xs apart.1)

pub found : {A : Type 0} (f : A → Bool) (P : A → Type 0) (xs : List A) (x : A) → AllByRecursion P xs → find f xs ≡ Some x → (f x ≡ true) × P x
found f P [] x a h = absurd (none-some x h)
found {A = A} f P (y ∷ xs) x a h =
    cond_both (f y) (Some y) (find f xs) (λ (o : Option A). o ≡ Some x → (f x ≡ true) × P x)
    (λ e k. let same : y ≡ x = same_Some y x k in (subst (λ (z : A). f z ≡ true) same e, subst P same a.0)) (λ e k. found f P xs x a.1 k) h

pub by_cases : (P : Bool → Type 0) (b : Bool) → (b ≡ true → P true) → (b ≡ false → P false) → P b
by_cases P true h k = h refl
by_cases P false h k = k refl

pub none_found : {A : Type 0} (f : A → Bool) (xs : List A) → AllByRecursion (λ (x : A). f x ≡ false) xs → find f xs ≡ None
none_found f [] a = refl
none_found f (x ∷ xs) a = cond_both (f x) (Some x) (find f xs) (λ o. o ≡ None) (λ e. absurd (false≢true (sym a.0 ∙ e))) (λ e. none_found f xs a.1)

pub both : (a b : Bool) → (a && b) ≡ true → (a ≡ true) × (b ≡ true)
both true b h = (refl, h)
both false b h = absurd (false≢true h)

pub same_number : (m n : ℕ) → eqb m n ≡ true → m ≡ n
same_number m n h = search rules

pub same_length : (m n : ℕ) → not (eqb m n) ≡ false → m ≡ n
same_length m n h = search rules

pub same_self : (n : ℕ) → eqb n n ≡ true
same_self n = search rules

pub not_same : (m n : ℕ) → m < n → eqb m n ≡ false
not_same m n h = search rules

pub at_most : (m n : ℕ) → leb m n ≡ true → m ≤ n
at_most m n h = search rules

pub is_same_text : (xs ys : List ℕ) (b : Bool) → b ≡ pointwise nat_eq xs ys → not b ≡ false → xs ≡ ys
is_same_text xs ys true e h = same_text xs ys e
is_same_text xs ys false e h = absurd (false≢true (sym h))

pub text_is_same : (xs ys : List ℕ) (b : Bool) → b ≡ pointwise nat_eq xs ys → xs ≡ ys → not b ≡ false
text_is_same xs ys true e h = refl
text_is_same xs ys false e h = absurd (other_text xs ys e h)

pub taken_is : (o : Outcome) → is_taken o ≡ true → o ≡ Taken
taken_is Taken h = refl
taken_is o h = absurd (false≢true h)

pub accepted_is : (o : Outcome) → is_candidate o ≡ true → o ≡ Candidate
accepted_is Candidate h = refl
accepted_is o h = absurd (false≢true h)
