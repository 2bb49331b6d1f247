-- Lists that other pages speak of: their elements, and their ends.
use Rattle.std.proofs.Common.{[], ◌++◌, ◌<◌, ◌∷◌, ◌≡◌, arith, get_or, length, List, refl, Some, subst, suc, zero, ℕ}
use Rattle.pdc_history.proofs.Names.{AllByRecursion, Contains, get_or_from_slice_get, slice_get, slice_get_within}

pub head_of : {A : Type 0} {x y : A} {xs ys : List A} → x ∷ xs ≡ y ∷ ys → x ≡ y
head_of h = cc

pub tail_of : {A : Type 0} {x y : A} {xs ys : List A} → x ∷ xs ≡ y ∷ ys → xs ≡ ys
tail_of h = cc

-- what stands at a place is in the list
pub place_there : {A : Type 0} (xs : List A) (p : ℕ) (x : A) → slice_get xs p ≡ Some x → Contains xs x
place_there xs p x q = (p, slice_get_within xs p x q, get_or_from_slice_get xs p x x q)

pub none_there : {A : Type 0} {B : Type 0} (p : ℕ) (x : A) → slice_get {X = A} [] p ≡ Some x → B
none_there {A = A} p x q = absurd (omega (arith, slice_get_within [] p x q))

pub appended : {A : Type 0} (P : A → Type 0) (xs more : List A) → AllByRecursion P xs → AllByRecursion P more → AllByRecursion P (xs ++ more)
appended P [] more a b = b
appended P (x ∷ xs) more a b = (a.0, appended P xs more a.1 b)

pub last_one : {A : Type 0} (P : A → Type 0) (xs : List A) (x : A) → AllByRecursion P (xs ++ x ∷ []) → P x
last_one P [] x a = a.0
last_one P (y ∷ xs) x a = last_one P xs x a.1

pub mapped : {A : Type 0} (P Q : A → Type 0) (xs : List A) → ((x : A) → P x → Q x) → AllByRecursion P xs → AllByRecursion Q xs
mapped P Q [] f a = tt
mapped P Q (x ∷ xs) f a = (f x a.0, mapped P Q xs f a.1)

pub of_all : {A : Type 0} (P : A → Type 0) (xs : List A) (x : A) (k : ℕ) → AllByRecursion P xs → k < length xs → get_or xs k x ≡ x → P x
of_all P [] x k a h e = absurd (omega (arith, h))
of_all P (y ∷ ys) x zero a h e = subst P e a.0
of_all P (y ∷ ys) x (suc k) a h e = of_all P ys x k a.1 (omega (arith, h)) e

pub element : {A : Type 0} (P : A → Type 0) (xs : List A) (x : A) → AllByRecursion P xs → Contains xs x → P x
element P xs x a k = of_all P xs x k.0 a k.1 k.2

pub in_one : {A : Type 0} (x y : A) → Contains (x ∷ []) y → x ≡ y
in_one x y k = element (λ z. x ≡ z) (x ∷ []) y (refl, tt) k

pub not_in_none : {A : Type 0} (y : A) → Contains [] y → ⊥
not_in_none y k = element (λ z. ⊥) [] y tt k

pub not_empty : {A : Type 0} (xs ys : List A) (y : A) → [] ≡ xs ++ y ∷ ys → ⊥
not_empty [] ys y h = cc
not_empty (x ∷ xs) ys y h = cc
