-- One more of a list that is made item by item of another one.
use Rattle.std.proofs.Common.{arith, ◌≡◌, ◌∙◌, ◌++◌, ◌∷◌, List, [], ap, append_assoc, length, map, refl, sym}

map_more : {A B : Type 0} (f : A → B) (xs : List A) (x : A) → map f (xs ++ x ∷ []) ≡ map f xs ++ f x ∷ []
map_more f [] x = refl
map_more f (y ∷ xs) x = ap (λ l. f y ∷ l) (map_more f xs x)

pub map_on : {A B : Type 0} (f : A → B) (xs more : List A) (x : A) (old rest ys : List B) → more ≡ xs ++ x ∷ [] → old ≡ f x ∷ rest → map f xs ++ old ≡ ys → map f more ++ rest ≡ ys
map_on f xs more x old rest ys m o e =
    ap (λ l. map f l ++ rest) m ∙ (ap (λ l. l ++ rest) (map_more f xs x) ∙ (append_assoc (map f xs) (f x ∷ []) rest ∙ (ap (λ l. map f xs ++ l) (sym o) ∙ e)))

pub nothing_left : {X : Type 0} (l : List X) → length l ≡ 0 → l ≡ []
nothing_left [] h = refl
nothing_left (x ∷ xs) h = absurd (omega arith)
