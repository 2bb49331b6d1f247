-- Where an item stands in a filtered list, and how long that list is.
use Rattle.pdc_life.proofs.Names.{[], ◌+◌, ◌<◌, ◌∙◌, ◌∷◌, ◌≡◌, ap, arith, Bool, cond, cons_option, Contains, false, false≢true, filter, filter_map, is_some, length, List, None, none-some, Option, range_with_len, refl, slice_get, Some, suc, sym, true, zero, ℕ}
use Rattle.pdc_life.proofs.Lists.{contains_at}

first_place : {X : Type 0} (o : Option X) (x : X) (rest : List X) → o ≡ Some x → slice_get (cons_option o rest) 0 ≡ Some x
first_place None x rest e = absurd (none-some x e)
first_place (Some y) x rest e = e

next_place : {X : Type 0} (o : Option X) (b : Bool) (x : X) (rest : List X) (d : ℕ) (ds : List ℕ) → is_some o ≡ b → slice_get rest (length ds) ≡ Some x → slice_get (cons_option o rest) (length (cond b (d ∷ ds) ds)) ≡ Some x
next_place None true x rest d ds e h = absurd (false≢true e)
next_place None false x rest d ds e h = h
next_place (Some y) true x rest d ds e h = h
next_place (Some y) false x rest d ds e h = absurd (false≢true (sym e))

pub at_place : {X : Type 0} (h : ℕ → Option X) (t : ℕ → Bool) → ((d : ℕ) → is_some (h d) ≡ t d) → (a n m : ℕ) (x : X) → m < n → h (a + m) ≡ Some x
    → slice_get (filter_map h (range_with_len a n)) (length (filter t (range_with_len a m))) ≡ Some x
at_place h t same a zero m x l k = absurd (omega (arith, l))
at_place h t same a (suc n) zero x l k = let on : a ≡ a + 0 = omega arith in first_place (h a) x (filter_map h (range_with_len (a + 1) n)) (ap h on ∙ k)
at_place h t same a (suc n) (suc m) x l k =
    let on : a + 1 + m ≡ a + suc m = omega arith in
    next_place (h a) (t a) x (filter_map h (range_with_len (a + 1) n)) a (filter t (range_with_len (a + 1) m)) (same a) (at_place h t same (a + 1) n m x (omega (arith, l)) (ap h on ∙ k))

one_more : {X : Type 0} (o : Option X) (b : Bool) (xs : List X) (d : ℕ) (ds : List ℕ) → is_some o ≡ b → length xs ≡ length ds → length (cons_option o xs) ≡ length (cond b (d ∷ ds) ds)
one_more None true xs d ds e h = absurd (false≢true e)
one_more None false xs d ds e h = h
one_more (Some y) true xs d ds e h = ap suc h
one_more (Some y) false xs d ds e h = absurd (false≢true (sym e))

pub as_many : {X : Type 0} (h : ℕ → Option X) (t : ℕ → Bool) → ((d : ℕ) → is_some (h d) ≡ t d) → (ds : List ℕ) → length (filter_map h ds) ≡ length (filter t ds)
as_many h t same [] = refl
as_many h t same (d ∷ ds) = one_more (h d) (t d) (filter_map h ds) d (filter t ds) (same d) (as_many h t same ds)

-- what one of the numbers gives is listed
pub listed_in : {X : Type 0} (h : ℕ → Option X) (n c : ℕ) (x : X) → c < n → h c ≡ Some x → Contains (filter_map h (range_with_len 0 n)) x
listed_in h n c x l k =
    let on : 0 + c ≡ c = omega arith in
    contains_at (filter_map h (range_with_len 0 n)) _ x (at_place h (λ d. is_some (h d)) (λ d. refl) 0 n c x l (ap h on ∙ k))
