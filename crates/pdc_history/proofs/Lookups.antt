-- What a bucket tells once one went down it.
use Rattle.std.proofs.Common.{◌≡◌, Bool, ℕ, ◌<◌, List, [], ◌∷◌, ◌++◌, length, get_or, true, false, refl, sym, ap, subst, ◌∙◌, Option, Some, None, map, option_map}
use Rattle.std.specs.Prelude.{◌≢◌, Err, IfErr, IfOk, MatchOption, Ok, OnErr, OnOk, Result, ◌↔◌, IsTrue, not}
use Rattle.std.specs.List.{Contains, slice_get}
use Rattle.std.specs.Option.{is_some}
use Rattle.std.proofs.lemmas.Bool.{false≢true}
use Rattle.std.proofs.lemmas.List.{get_or-map, get_or_default, length-map, map-append}
use Rattle.std.proofs.lemmas.Option.{get_or_from_slice_get, none-some, slice_get_within}
use Rattle.pdc_life.specs.declared.given.Settings.{Settings}
use Rattle.pdc_life.specs.declared.pmu.Pmu.{Pmu}
use Rattle.pdc_history.specs.declared.key.Key.{Key}
use Rattle.pdc_history.specs.Chains.{HavePassed}
use Rattle.pdc_history.specs.Index.{IsIndexed, bucket_of, bucket_under}
use Rattle.pdc_history.specs.Sent.{HasTold}
use Rattle.pdc_history.specs.Told.{Tells}

-- ---- by the bytes

pub is_among : (F : List (List ℕ)) (n : ℕ) (frame bytes : List ℕ) → slice_get F n ≡ Some frame → frame ≡ bytes → Contains F bytes
is_among F n frame bytes at same = (n, slice_get_within F n frame at, get_or_from_slice_get F n frame bytes at ∙ same)

len_of_keys : (F : List (List ℕ)) (K : List ℕ) → K ≡ map bucket_of F → length K ≡ length F
len_of_keys F K keys = ap length keys ∙ length-map F bucket_of

pub number_bound : (F : List (List ℕ)) (K : List ℕ) (b n : ℕ) (P : ℕ → Type 0) → K ≡ map bucket_of F → HavePassed K b P (Some n) → n < length F
number_bound F K b n P keys passed = subst (λ (m : ℕ). n < m) (len_of_keys F K keys) passed.0

pub is_not_among : (F : List (List ℕ)) (K : List ℕ) (b : ℕ) (bytes : List ℕ) → K ≡ map bucket_of F → b ≡ bucket_of bytes → HavePassed K b (λ n. get_or F n [] ≢ bytes) None → Contains F bytes → ⊥
is_not_among F K b bytes keys bucket passed (k, lt, at) =
    passed k (subst (λ (m : ℕ). k < m) (sym (len_of_keys F K keys)) lt)
    (ap (λ (xs : List ℕ). get_or xs k 0) keys ∙ get_or-map bucket_of F k bytes 0 lt ∙ ap bucket_of at ∙ sym bucket)
    (get_or_default F k [] bytes lt ∙ at)

-- ---- by what is told

pub has_told : (settings : Settings) (F : List (List ℕ)) (K : List ℕ) (p : ℕ) (pmu : Pmu) (key : Key) (n : ℕ) (frame y : List ℕ) → IsIndexed settings F K → slice_get settings.pmus.items p ≡ Some pmu
    → slice_get F n ≡ Some frame → Tells settings pmu frame key y → HasTold settings F pmu key y
has_told settings F K p pmu key n frame y is listed at tells = record {
  frame = frame;
  among = is_among F n frame frame at refl;
  tells = tells;
  only = λ other x among its. is.one p pmu frame other key y x listed (is_among F n frame frame at refl) among tells its;
}

pub nothing_told : (settings : Settings) (F : List (List ℕ)) (K : List ℕ) (b p : ℕ) (pmu : Pmu) (key : Key) → IsIndexed settings F K → slice_get settings.pmus.items p ≡ Some pmu → b ≡ bucket_under pmu.stream.value key
    → HavePassed K b (λ n. (x : List ℕ) → Tells settings pmu (get_or F n []) key x → ⊥) None → (other x : List ℕ) → Contains F other → Tells settings pmu other key x → ⊥
nothing_told settings F K b p pmu key is listed bucket passed other x (k, lt, at) tells =
    let here : get_or F k [] ≡ other = get_or_default F k [] other lt ∙ at in
    let its : Tells settings pmu (get_or F k []) key x = subst (λ (z : List ℕ). Tells settings pmu z key x) (sym here) tells in
    passed k (subst (λ (m : ℕ). k < m) (sym is.len) lt) (is.keyed k p pmu key x lt listed its ∙ sym bucket) x its

-- ---- cases

pub match_some : {X : Type 0} → (r : Option X) (N : Type 0) (P : X → Type 0) → is_some r ≡ true → ((x : X) → r ≡ Some x → P x) → MatchOption r N P
match_some None N P h f = absurd (false≢true h)
match_some (Some x) N P h f = f x refl

pub not_some : {X : Type 0} → (r : Option X) (f : X → List ℕ) (y : List ℕ) → is_some r ≡ false → option_map f r ≡ Some y → ⊥
not_some None f y h e = none-some y e
not_some (Some x) f y h e = false≢true (sym h)

pub both_ok : {T E : Type 0} → (r : Result T E) (A : Type 0) (P Q : T → Type 0) → ((t : T) → A → P t → Q t) → OnOk r A → IfOk r P → IfOk r Q
both_ok (Ok t) A P Q f a p = f t a p
both_ok (Err e) A P Q f a p = p

pub both_err : {T E : Type 0} → (r : Result T E) (A : Type 0) (P Q : E → Type 0) → ((e : E) → A → P e → Q e) → OnErr r A → IfErr r P → IfErr r Q
both_err (Ok t) A P Q f a p = p
both_err (Err e) A P Q f a p = f e a p

-- ---- one frame more, in the bucket of its check word

pub keys_push : (F G : List (List ℕ)) (K L : List ℕ) (bytes : List ℕ) (b : ℕ) → K ≡ map bucket_of F → G ≡ F ++ bytes ∷ [] → L ≡ K ++ b ∷ [] → b ≡ bucket_of bytes → L ≡ map bucket_of G
keys_push F G K L bytes b keys more longer bucket =
    longer ∙ ap (λ (n : ℕ). K ++ n ∷ []) bucket ∙ ap (λ (xs : List ℕ). xs ++ bucket_of bytes ∷ []) keys
    ∙ sym (map-append bucket_of F (bytes ∷ [])) ∙ ap (map bucket_of) (sym more)

pub none_is : {X : Type 0} → (r : Option X) (N : Type 0) (P : X → Type 0) → MatchOption r N P → ((x : X) → P x → N → ⊥) → (b : Bool) → is_some r ≡ not b → IsTrue b ↔ N
none_is None N P m f true e = (λ yes. m, λ n. refl)
none_is None N P m f false e = absurd (false≢true e)
none_is (Some x) N P m f true e = absurd (false≢true (sym e))
none_is (Some x) N P m f false e = (λ yes. absurd (false≢true yes), λ n. absurd (f x m n))
