-- PMUs are told apart by their streams, so a frame is of one of them at most.
use Rattle.std.proofs.Common.{◌≡◌, ℕ, zero, suc, Bool, true, false, ◌&&◌, not, List, [], ◌∷◌, map, refl, sym, ap, subst, ◌∙◌, rules, Some, option_map}
use Rattle.std.specs.Prelude.{◌==◌, ◌||◌}
use Rattle.std.specs.List.{list_any, slice_get}
use Rattle.std.proofs.lemmas.Bool.{false≢true}
use Rattle.std.proofs.lemmas.Option.{none-some, same_Some, slice_get-map}
use Rattle.pdc_frame.specs.Frame.{Fields, IsFrame}
use Rattle.pdc_life.specs.declared.given.Settings.{Settings}
use Rattle.pdc_life.specs.declared.pmu.Pmu.{Pmu}
use Rattle.pdc_life.specs.Distinct.{are_distinct}
use Rattle.pdc_life.specs.NodeReading.{stream_of}
use Rattle.pdc_life.specs.Reading.{IsOfStream}
use Rattle.pdc_history.specs.declared.key.Key.{Key}
use Rattle.pdc_history.specs.declared.key.Key.TheVariants.{Count, Instant}
use Rattle.pdc_history.specs.Sent.{IsOfPmu}
use Rattle.pdc_history.specs.Told.{Tells}

either_false : (a b : Bool) → (a || b) ≡ false → (a ≡ false) × (b ≡ false)
either_false false b h = (refl, h)
either_false true b h = absurd (false≢true (sym h))

is_same_number : (n : ℕ) → (n == n) ≡ true
is_same_number n = search rules

none_same : (x : ℕ) (xs : List ℕ) (q : ℕ) → list_any (λ other. other == x) xs ≡ false → slice_get xs q ≡ Some x → ⊥
none_same x [] q h k = none-some x k
none_same x (y ∷ xs) zero h k =
    let same : (y == x) ≡ true = subst (λ (n : ℕ). (n == x) ≡ true) (sym (same_Some y x k)) (is_same_number x) in
    false≢true (sym (either_false (y == x) (list_any (λ other. other == x) xs) h).0 ∙ same)
none_same x (y ∷ xs) (suc q) h k = none_same x xs q (either_false (y == x) (list_any (λ other. other == x) xs) h).1 k

not_and : (a b : Bool) → (not a && b) ≡ true → (a ≡ false) × (b ≡ true)
not_and false b h = (refl, h)
not_and true b h = absurd (false≢true h)

-- distinct numbers stand at one place each
one_place : (xs : List ℕ) (p q n : ℕ) → are_distinct xs ≡ true → slice_get xs p ≡ Some n → slice_get xs q ≡ Some n → p ≡ q
one_place [] p q n d a b = absurd (none-some n a)
one_place (x ∷ xs) zero zero n d a b = refl
one_place (x ∷ xs) zero (suc q) n d a b =
    absurd (none_same x xs q (not_and (list_any (λ other. other == x) xs) (are_distinct xs) d).0 (b ∙ sym a))
one_place (x ∷ xs) (suc p) zero n d a b =
    absurd (none_same x xs p (not_and (list_any (λ other. other == x) xs) (are_distinct xs) d).0 (a ∙ sym b))
one_place (x ∷ xs) (suc p) (suc q) n d a b = ap suc (one_place xs p q n (not_and (list_any (λ other. other == x) xs) (are_distinct xs) d).1 a b)

abbrev streams : List Pmu → List ℕ
streams pmus = map (λ (pmu : Pmu). pmu.stream.value) pmus

distinct_streams : (settings : Settings) → are_distinct (streams settings.pmus.items) ≡ true
distinct_streams settings =
    (not_and (list_any (λ other. other == settings.output.id.value) (streams settings.pmus.items)) (are_distinct (streams settings.pmus.items)) settings.streams).1

pmu_of_stream : (settings : Settings) (p q : ℕ) (x y : Pmu) → slice_get settings.pmus.items p ≡ Some x → slice_get settings.pmus.items q ≡ Some y → x.stream.value ≡ y.stream.value → x ≡ y
pmu_of_stream settings p q x y a b same =
    let f : Pmu → ℕ = λ (pmu : Pmu). pmu.stream.value in
    let first : slice_get (streams settings.pmus.items) p ≡ Some x.stream.value = slice_get-map f settings.pmus.items p ∙ ap (option_map f) a in
    let second : slice_get (streams settings.pmus.items) q ≡ Some x.stream.value = slice_get-map f settings.pmus.items q ∙ ap (option_map f) b ∙ ap Some (sym same) in
    let place : p ≡ q = one_place (streams settings.pmus.items) p q x.stream.value (distinct_streams settings) first second in
    same_Some x y (sym a ∙ ap (slice_get settings.pmus.items) place ∙ b)

-- what tells something of a PMU is a frame of it
pub told_of_stream : (settings : Settings) (pmu : Pmu) (bytes : List ℕ) (key : Key) (x : List ℕ) → Tells settings pmu bytes key x → (f : Fields) × IsOfStream (stream_of settings pmu) bytes f
told_of_stream settings pmu bytes (Instant i) x tells = (tells.is_data.fields, tells.is_data.of_stream)
told_of_stream settings pmu bytes (Count n) x tells = (tells.valid.base.has.fields, tells.valid.base.has.of_stream)

-- bytes are a frame in one way
abbrev pub OneFrame : Type 0
OneFrame = (bytes : List ℕ) (f g : Fields) → IsFrame bytes f → IsFrame bytes g → f ≡ g

pub told_of_pmu : OneFrame → (settings : Settings) (p q : ℕ) (pmu other : Pmu) (bytes : List ℕ) (key : Key) (x : List ℕ) → IsOfPmu settings p pmu bytes → slice_get settings.pmus.items q ≡ Some other
    → Tells settings other bytes key x → other ≡ pmu
told_of_pmu one settings p q pmu other bytes key x is listed tells =
    let its = told_of_stream settings other bytes key x tells in
    let same : its.0 ≡ is.fields = one bytes its.0 is.fields its.1.frame is.of_stream.frame in
    pmu_of_stream settings q p other pmu listed is.listed (sym its.1.id ∙ ap (λ (f : Fields). f.id) same ∙ is.of_stream.id)
