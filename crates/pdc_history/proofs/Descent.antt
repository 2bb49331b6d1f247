-- One number more in a bucket, and the way down a bucket.
use Rattle.std.proofs.Common.{◌≡◌, ℕ, suc, ◌+◌, ◌<◌, ◌≤◌, List, [], ◌∷◌, ◌++◌, length, length-append, get_or, arith, sym, ap, subst, ◌∙◌, inl, inr, Some, None, Option}
use Rattle.std.specs.Prelude.{◌≢◌, ◌⊎◌, slice_set}
use Rattle.std.proofs.Math.ListN.{get_or-append}
use Rattle.std.proofs.Math.Seq.{get_or-append_seam}
use Rattle.std.proofs.lemmas.Bool.{cases_order}
use Rattle.std.proofs.lemmas.List.{get_or-set_other, get_or-set_same, length-set, map-append, length-map}
use Rattle.pdc_history.specs.declared.chains.Entry.{Entry}
use Rattle.pdc_history.specs.Chains.{AreChains, HavePassed, IsLastBelow, keys_of}

-- ---- one number more

below_or_here : (n m : ℕ) → n < m + 1 → (n ≡ m) ⊎ (n < m)
below_or_here n m h = elim (cases_order n m) [ inl e ↦ inl e | inr (inl l) ↦ inr l | inr (inr g) ↦ absurd (omega (arith, h, g)) ]

kept : (K : List ℕ) (k n : ℕ) → n < length K → get_or (K ++ k ∷ []) n 0 ≡ get_or K n 0
kept K k n h = get_or-append K (k ∷ []) 0 n h

last_kept : (K : List ℕ) (k b below : ℕ) (o : Option ℕ) → below ≤ length K → IsLastBelow K b below o → IsLastBelow (K ++ k ∷ []) b below o
last_kept K k b below None h none = λ n l e. none n l (sym (kept K k n (omega (arith, l, h))) ∙ e)
last_kept K k b below (Some m) h is =
    (is.0, kept K k m (omega (arith, is.0, h)) ∙ is.1, λ n l u e. is.2 n l u (sym (kept K k n (omega (arith, u, h))) ∙ e))

not_at_end : (K : List ℕ) (k b n : ℕ) → k ≢ b → n ≡ length K → get_or (K ++ k ∷ []) n 0 ≡ b → ⊥
not_at_end K k b n ne at e = ne (sym (get_or-append_seam K k [] 0) ∙ ap (λ (i : ℕ). get_or (K ++ k ∷ []) i 0) (sym at) ∙ e)

last_of_other : (K : List ℕ) (k b : ℕ) (o : Option ℕ) → k ≢ b → IsLastBelow K b (length K) o → IsLastBelow (K ++ k ∷ []) b (length K + 1) o
last_of_other K k b None ne none = λ n l e.
    elim (below_or_here n (length K) l) [ inl at ↦ not_at_end K k b n ne at e | inr u ↦ none n u (sym (kept K k n u) ∙ e) ]
last_of_other K k b (Some m) ne is =
    let lt : m < length K = is.0 in (
      omega (arith, lt),
      kept K k m lt ∙ is.1,
      λ n v l e. elim (below_or_here n (length K) l) [ inl at ↦ not_at_end K k b n ne at e | inr u ↦ is.2 n v u (sym (kept K k n u) ∙ e) ],
    )

last_of_same : (K : List ℕ) (k : ℕ) → IsLastBelow (K ++ k ∷ []) k (length K + 1) (Some (length K))
last_of_same K k = (omega arith, get_or-append_seam K k [] 0, λ n v l e. absurd (omega (arith, v, l)))

-- ---- the way down

pub pass_first : (K : List ℕ) (b : ℕ) (P : ℕ → Type 0) (o : Option ℕ) → IsLastBelow K b (length K) o → HavePassed K b P o
pass_first K b P None none = λ n l e. absurd (none n l e)
pass_first K b P (Some m) is = (is.0, is.1, λ n v l e. absurd (is.2 n v l e))

pub pass_on : (K : List ℕ) (b m : ℕ) (P : ℕ → Type 0) (o : Option ℕ) → HavePassed K b P (Some m) → P m → IsLastBelow K (get_or K m 0) m o → HavePassed K b P o
pass_on K b m P None passed here none = λ n l e.
    elim (cases_order n m) [
      | inl at ↦ subst P (sym at) here
      | inr (inl u) ↦ absurd (none n u (e ∙ sym passed.1))
      | inr (inr v) ↦ passed.2 n v l e
    ]
pass_on K b m P (Some k) passed here is =
    let low : k < m = is.0 in
    let high : m < length K = passed.0 in (
      omega (arith, low, high),
      is.1 ∙ passed.1,
      λ n v l e. elim (cases_order n m) [
        | inl at ↦ subst P (sym at) here
        | inr (inl u) ↦ absurd (is.2 n v u (e ∙ sym passed.1))
        | inr (inr w) ↦ passed.2 n w l e
      ],
    )

-- how far it is to the end
abbrev pub left : Option ℕ → ℕ
left None = 0
left (Some n) = suc n

pub goes_down : (K : List ℕ) (b m : ℕ) (o : Option ℕ) → IsLastBelow K b m o → left o < left (Some m)
goes_down K b m None is = omega arith
goes_down K b m (Some k) is = let low : k < m = is.0 in omega (arith, low)

-- ---- the chains of one entry more

pub keys_push : (entries : List Entry) (e : Entry) → keys_of (entries ++ e ∷ []) ≡ keys_of entries ++ e.bucket ∷ []
keys_push entries e = map-append (λ (x : Entry). x.bucket) entries (e ∷ [])

pub length-keys : (entries : List Entry) → length (keys_of entries) ≡ length entries
length-keys entries = length-map entries (λ (x : Entry). x.bucket)

-- the last of each bucket, the bucket of the entry apart or the same
last_after : (lasts : List (Option ℕ)) (K : List ℕ) (k b n : ℕ) → n ≡ length K → k < length lasts → b < length lasts → ((b : ℕ) → b < length lasts → IsLastBelow K b n (get_or lasts b None))
    → IsLastBelow (K ++ k ∷ []) b (n + 1) (get_or (slice_set lasts k (Some n)) b None)
last_after lasts K k b n len low bound all =
    elim (cases_order b k) [
      | inl same ↦ at_same same
      | inr (inl l) ↦ at_other (omega (arith, l))
      | inr (inr g) ↦ at_other (omega (arith, g))
    ]
  where
    at_other : k ≢ b → IsLastBelow (K ++ k ∷ []) b (n + 1) (get_or (slice_set lasts k (Some n)) b None)
    at_other ne =
        subst (λ (m : ℕ). IsLastBelow (K ++ k ∷ []) b (m + 1) (get_or (slice_set lasts k (Some n)) b None)) (sym len)
        (subst (λ (o : Option ℕ). IsLastBelow (K ++ k ∷ []) b (length K + 1) o) (sym (get_or-set_other lasts k b (Some n) None (λ e. ne (sym e))))
        (last_of_other K k b (get_or lasts b None) ne (subst (λ (m : ℕ). IsLastBelow K b m (get_or lasts b None)) len (all b bound))))

    at_same : b ≡ k → IsLastBelow (K ++ k ∷ []) b (n + 1) (get_or (slice_set lasts k (Some n)) b None)
    at_same e =
        subst (λ (x : ℕ). IsLastBelow (K ++ k ∷ []) x (n + 1) (get_or (slice_set lasts k (Some n)) x None)) (sym e)
        (subst (λ (o : Option ℕ). IsLastBelow (K ++ k ∷ []) k (n + 1) o) (sym (get_or-set_same lasts k (Some n) None low))
        (subst (λ (m : ℕ). IsLastBelow (K ++ k ∷ []) k (m + 1) (Some m)) (sym len) (last_of_same K k)))

-- what stands before each number
before_after : (entries : List Entry) (e : Entry) → IsLastBelow (keys_of entries) e.bucket (length entries) e.before
    → ((n : ℕ) (d : Entry) → n < length entries → IsLastBelow (keys_of entries) (get_or entries n d).bucket n (get_or entries n d).before)
    → (n : ℕ) (d : Entry) → n < length entries + 1 → IsLastBelow (keys_of (entries ++ e ∷ [])) (get_or (entries ++ e ∷ []) n d).bucket n (get_or (entries ++ e ∷ []) n d).before
before_after entries e is all n d h =
    elim (below_or_here n (length entries) h) [ inl at ↦ at_end at | inr l ↦ at_place l ]
  where
    K : List ℕ
    K = keys_of entries

    at_end : n ≡ length entries → IsLastBelow (keys_of (entries ++ e ∷ [])) (get_or (entries ++ e ∷ []) n d).bucket n (get_or (entries ++ e ∷ []) n d).before
    at_end at =
        subst (λ (m : ℕ). IsLastBelow (keys_of (entries ++ e ∷ [])) (get_or (entries ++ e ∷ []) m d).bucket m (get_or (entries ++ e ∷ []) m d).before) (sym at)
        (subst (λ (x : Entry). IsLastBelow (keys_of (entries ++ e ∷ [])) x.bucket (length entries) x.before) (sym (get_or-append_seam entries e [] d))
        (subst (λ (keys : List ℕ). IsLastBelow keys e.bucket (length entries) e.before) (sym (keys_push entries e))
        (last_kept (keys_of entries) e.bucket e.bucket (length entries) e.before (omega (arith, length-keys entries)) is)))

    at_place : n < length entries → IsLastBelow (keys_of (entries ++ e ∷ [])) (get_or (entries ++ e ∷ []) n d).bucket n (get_or (entries ++ e ∷ []) n d).before
    at_place l =
        subst (λ (x : Entry). IsLastBelow (keys_of (entries ++ e ∷ [])) x.bucket n x.before) (sym (get_or-append entries (e ∷ []) d n l))
        (subst (λ (keys : List ℕ). IsLastBelow keys (get_or entries n d).bucket n (get_or entries n d).before) (sym (keys_push entries e))
        (last_kept (keys_of entries) e.bucket (get_or entries n d).bucket n (get_or entries n d).before (omega (arith, length-keys entries, l)) (all n d l)))

pub chains_push : (lasts : List (Option ℕ)) (entries : List Entry) (e : Entry) → e.bucket < length lasts → e.before ≡ get_or lasts e.bucket None → AreChains lasts entries
    → AreChains (slice_set lasts e.bucket (Some (length entries))) (entries ++ e ∷ [])
chains_push lasts entries e low before are = record {
  last = λ b bound.
      subst (λ (keys : List ℕ). IsLastBelow keys b (length (entries ++ e ∷ [])) (get_or (slice_set lasts e.bucket (Some (length entries))) b None)) (sym (keys_push entries e))
      (subst (λ (m : ℕ). IsLastBelow (keys_of entries ++ e.bucket ∷ []) b m (get_or (slice_set lasts e.bucket (Some (length entries))) b None)) (sym (one_more entries e))
      (last_after lasts (keys_of entries) e.bucket b (length entries) (sym (length-keys entries)) low (subst (λ (m : ℕ). b < m) (length-set lasts e.bucket (Some (length entries))) bound) are.last));
  before = λ n d h.
      before_after entries e (subst (λ (o : Option ℕ). IsLastBelow (keys_of entries) e.bucket (length entries) o) (sym before) (are.last e.bucket low)) are.before n d
      (subst (λ (m : ℕ). n < m) (one_more entries e) h);
}
  where
    one_more : (entries : List Entry) (e : Entry) → length (entries ++ e ∷ []) ≡ length entries + 1
    one_more entries e = length-append entries (e ∷ [])

pub no_chains : (lasts : List (Option ℕ)) → ((b : ℕ) → b < length lasts → get_or lasts b None ≡ None) → AreChains lasts []
no_chains lasts none = record {
  last = λ b h. subst (λ (o : Option ℕ). IsLastBelow [] b 0 o) (sym (none b h)) (λ n l e. absurd (omega (arith, l)));
  before = λ n d h. absurd (omega (arith, h));
}
