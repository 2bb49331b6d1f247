-- Lists of tables, as the values of a document say them.
use Rattle.std.proofs.Common.{◌≡◌, ℕ, ◌+◌, ◌<◌, ◌≤◌, Bool, true, false, ◌&&◌, IsTrue, List, [], ◌∷◌, ◌++◌, length, map, take, drop, get_or, refl, sym, ap, ◌∙◌, suc, Option, Some, None, Result, Ok, Err, OnErr}
use Rattle.std.specs.Prelude.{if◌then◌else◌, nat_le}
use Rattle.std.specs.List.{list_all}
use Rattle.std.proofs.lemmas.Bool.{false≢true}
use Rattle.std.proofs.lemmas.List.{map-append, map_push, take-append-drop, take_more, take_all}
use Rattle.std.proofs.lemmas.Option.{none-some, same_Some}
use Rattle.std.proofs.Math.Seq.{drop-cons}
use Rattle.toml.specs.Data.{Data, Members}
use Rattle.toml.specs.View.{items_of, items_view, view}
use Rattle.toml.specs.declared.value.Value.{Value}
use Rattle.pdc_life.specs.pdc_row.declared.limits.TheConstants.{MAX_PMUS}
use Rattle.pdc_settings.specs.Entries.{both, count_of, each_of, some_pmus, two_of}
use Rattle.pdc_keys.specs.Places.{IsUnread, as_place}
use Rattle.pdc_settings.specs.Network.{IsKeyFault, fault_of, few_outputs, outputs_in}
use Rattle.pdc_settings.specs.Limits.{MAX_OUTPUTS}
use Rattle.pdc_keys.specs.declared.unread.Unread.{Unread}

both-true : (a b d : Bool) → IsTrue (a && b) → (IsTrue b → IsTrue d) → IsTrue (a && d)
both-true true b d h k = k h
both-true false b d h k = absurd (false≢true h)

-- what holds anyhow holds where there is a fault
pub on_err : {A B : Type 0} (r : Result A B) (P : Type 0) → P → OnErr r P
on_err (Ok a) P p = tt
on_err (Err b) P p = p

-- a test that holds of a list and of one more value
pub passes-push : {A : Type 0} (p : A → Bool) (values : List A) (value : A) → IsTrue (list_all p values) → IsTrue (p value) → IsTrue (list_all p (values ++ value ∷ []))
passes-push p [] value h k = rw k refl
passes-push p (v ∷ values) value h k = both-true (p v) (list_all p values) (list_all p (values ++ value ∷ [])) h (λ e. passes-push p values value e k)

-- as many items as values
pub count-items : (values : List Value) → count_of (items_view values) ≡ length values
count-items [] = refl
count-items (value ∷ values) = ap suc (count-items values)

both-some : {A : Type 0} (x : Option A) (more : Option (List A)) (a : A) (others : List A) → x ≡ Some a → more ≡ Some others → both x more ≡ Some (a ∷ others)
both-some x more a others h k = rw (h, k) refl

both-none : {A : Type 0} (x : Option A) (more : Option (List A)) → more ≡ None → both x more ≡ None
both-none None more h = refl
both-none (Some a) more h = rw h refl

none-both : {A : Type 0} (x : Option A) (more : Option (List A)) → x ≡ None → both x more ≡ None
none-both x more h = rw h refl

both-push : {A : Type 0} (x : Option A) (more later : Option (List A)) (all : List A) (a : A) → both x more ≡ Some all → ((others : List A) → more ≡ Some others → later ≡ Some (others ++ a ∷ []))
    → both x later ≡ Some (all ++ a ∷ [])
both-push None more later all a h k = absurd (none-some all h)
both-push (Some x) None later all a h k = absurd (none-some all h)
both-push (Some x) (Some others) later all a h k =
    both-some (Some x) later x (others ++ a ∷ []) refl (k others refl) ∙ ap (λ l. Some (l ++ a ∷ [])) (same_Some (x ∷ others) all h)

-- a list says what its front says, and what one more value says
each-push : {A : Type 0} (f : Data → Option A) (values : List Data) (all : List A) (value : Data) (a : A) → each_of f (items_of values) ≡ Some all → f value ≡ Some a → each_of f (items_of (values ++ value ∷ [])) ≡ Some (all ++ a ∷ [])
each-push f [] all value a h k = both-some (f value) (Some []) a [] k refl ∙ ap (λ l. Some (l ++ a ∷ [])) (same_Some [] all h)
each-push f (v ∷ values) all value a h k =
    both-push (f v) (each_of f (items_of values)) (each_of f (items_of (values ++ value ∷ []))) all a h (λ others e. each-push f values others value a e k)

-- it says nothing where one of its values says nothing
each-none : {A : Type 0} (f : Data → Option A) (values : List Data) (value : Data) (more : List Data) → f value ≡ None → each_of f (items_of (values ++ value ∷ more)) ≡ None
each-none f [] value more h = none-both (f value) (each_of f (items_of more)) h
each-none f (v ∷ values) value more h = both-none (f v) (each_of f (items_of (values ++ value ∷ more))) (each-none f values value more h)

-- the same of values that are taken one after the other
pub each-taken : {A : Type 0} (f : Data → Option A) (values : List Value) (i : ℕ) (all : List A) (value : Value) (a : A) → i < length values → value ≡ get_or values i value → each_of f (items_view (take i values)) ≡ Some all → f (view value) ≡ Some a
    → each_of f (items_view (take (i + 1) values)) ≡ Some (all ++ a ∷ [])
each-taken f values i all value a below here h k =
    let more : take (i + 1) values ≡ take i values ++ value ∷ [] = take_more values i value below ∙ ap (λ v. take i values ++ v ∷ []) (sym here) in
    ap (λ vs. each_of f (items_view vs)) more ∙ ap (λ ds. each_of f (items_of ds)) (map_push view (take i values) value)
    ∙ each-push f (map view (take i values)) all (view value) a h k

pub none-taken : {A : Type 0} (f : Data → Option A) (values : List Value) (i : ℕ) (value : Value) → i < length values → value ≡ get_or values i value → f (view value) ≡ None → each_of f (items_view values) ≡ None
none-taken f values i value below here h =
    let apart : values ≡ take i values ++ value ∷ drop (suc i) values =
    sym (take-append-drop i values) ∙ ap (λ vs. take i values ++ vs) (drop-cons values i value below ∙ ap (λ v. v ∷ drop (suc i) values) (sym here)) in
    ap (λ vs. each_of f (items_view vs)) apart ∙ ap (λ ds. each_of f (items_of ds)) (map-append view (take i values) (value ∷ drop (suc i) values))
    ∙ each-none f (map view (take i values)) (view value) (map view (drop (suc i) values)) h

pub all-taken : {A : Type 0} (f : Data → Option A) (values : List Value) (i : ℕ) (all : List A) → length values ≤ i → each_of f (items_view (take i values)) ≡ Some all → each_of f (items_view values) ≡ Some all
all-taken f values i all above h = ap (λ vs. each_of f (items_view vs)) (sym (take_all i values above)) ∙ h

-- none but two are two
pub two-none : (values : List Value) → (length values ≡ 2 → ⊥) → two_of (items_view values) ≡ None
two-none [] h = refl
two-none (a ∷ []) h = refl
two-none (a ∷ b ∷ []) h = absurd (h refl)
two-none (a ∷ b ∷ c ∷ values) h = refl

-- the tables at `pmu`, where there are 1 to 16
pub some-tables : (values : List Value) → some_pmus (items_view values) ≡ (if nat_le 1 (length values) && nat_le (length values) MAX_PMUS then Some (items_view values) else None)
some-tables values = ap (λ n. if nat_le 1 n && nat_le n MAX_PMUS then Some (items_view values) else None) (count-items values)

-- the texts of a list, where there are at most 8
pub some-outputs : (values : List Value) → few_outputs (items_view values) ≡ (if nat_le (length values) MAX_OUTPUTS then each_of as_place (items_view values) else None)
some-outputs values = ap (λ n. if nat_le n MAX_OUTPUTS then each_of as_place (items_view values) else None) (count-items values)

-- why something was not read is why more was not read
pub unread-of : {P Q : Type 0} (unread : Unread) → (P → Q) → IsUnread P unread → IsUnread Q unread
unread-of Unread.NoPlace f p = f p
unread-of Unread.NoMemory f p = tt

-- a document whose destinations were not read has this fault
pub network-fault : (members : Members) (unread : Unread) → IsUnread (outputs_in members ≡ None) unread → IsKeyFault members (fault_of unread)
network-fault _ Unread.NoPlace h = h
network-fault _ Unread.NoMemory h = tt
