-- Lists of bytes, put together.
use Rattle.std.proofs.Common.{◌≡◌, ℕ, zero, suc, ◌+◌, ◌-◌, ◌*◌, ◌<◌, List, [], ◌∷◌, ◌++◌, length, get_or, replicate, ap, ap₂, ◌∙◌, arith}
use Rattle.std.specs.Int.{w16, w32, to_be_bytes}
use Rattle.std.specs.List.{flat_map}
use Rattle.std.proofs.lemmas.List.{get_or-append_right}
use Rattle.pdc_row.specs.pdc_frame.Bytes.{AreBytes, word_at}

pub record Bytes (xs : List ℕ) : Type 0 where
  pub all : AreBytes xs

pub Bytes-nil : Bytes []
Bytes-nil = record { all = λ i. omega arith }

AreBytes-cons : (x : ℕ) (xs : List ℕ) → x < 256 → AreBytes xs → AreBytes (x ∷ xs)
AreBytes-cons x xs h hs zero = h
AreBytes-cons x xs h hs (suc i) = hs i

pub Bytes-cons : {x : ℕ} {xs : List ℕ} → x < 256 → Bytes xs → Bytes (x ∷ xs)
Bytes-cons {x = x} {xs = xs} h hs = record { all = AreBytes-cons x xs h hs.all }

AreBytes-append : (xs ys : List ℕ) → AreBytes xs → AreBytes ys → AreBytes (xs ++ ys)
AreBytes-append [] ys hx hy = hy
AreBytes-append (x ∷ xs) ys hx hy = AreBytes-cons x (xs ++ ys) (hx 0) (AreBytes-append xs ys (λ i. hx (suc i)) hy)

pub Bytes-append : {xs ys : List ℕ} → Bytes xs → Bytes ys → Bytes (xs ++ ys)
Bytes-append {xs = xs} {ys = ys} hx hy = record { all = AreBytes-append xs ys hx.all hy.all }

pub Bytes-replicate : (n x : ℕ) → x < 256 → Bytes (replicate n x)
Bytes-replicate zero x h = Bytes-nil
Bytes-replicate (suc n) x h = Bytes-cons h (Bytes-replicate n x h)

AreBytes-word : (n : ℕ) → AreBytes (to_be_bytes w16 n)
AreBytes-word n zero = omega arith
AreBytes-word n (suc zero) = omega arith
AreBytes-word n (suc (suc i)) = omega arith

pub Bytes-word : (n : ℕ) → Bytes (to_be_bytes w16 n)
Bytes-word n = record { all = AreBytes-word n }

pub Bytes-flat_map : {X : Type 0} (f : X → List ℕ) → ((x : X) → Bytes (f x)) → (xs : List X) → Bytes (flat_map f xs)
Bytes-flat_map f h [] = Bytes-nil
Bytes-flat_map f h (x ∷ xs) = Bytes-append (h x) (Bytes-flat_map f h xs)

-- the word that stands behind so many bytes
pub word_at-behind : (front rest : List ℕ) (n : ℕ) → length front ≡ n → word_at (front ++ rest) n ≡ word_at rest 0
word_at-behind front rest n e =
    let here : n - n ≡ 0 = omega arith in
    let next : n + 1 - n ≡ 1 = omega arith in
    ap₂ (λ (a b : ℕ). 256 * a + b) (get_or-append_right front rest n n 0 e (omega arith) ∙ ap (λ (k : ℕ). get_or rest k 0) here)
    (get_or-append_right front rest n (n + 1) 0 e (omega arith) ∙ ap (λ (k : ℕ). get_or rest k 0) next)

AreBytes-long : (n : ℕ) → AreBytes (to_be_bytes w32 n)
AreBytes-long n zero = omega arith
AreBytes-long n (suc zero) = omega arith
AreBytes-long n (suc (suc zero)) = omega arith
AreBytes-long n (suc (suc (suc zero))) = omega arith
AreBytes-long n (suc (suc (suc (suc i)))) = omega arith

pub Bytes-long : (n : ℕ) → Bytes (to_be_bytes w32 n)
Bytes-long n = record { all = AreBytes-long n }
