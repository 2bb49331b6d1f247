-- A PMU sent one body for one instant, and one section under one count; and PMUs are told by their streams and sources.
use Rattle.std.proofs.Common.{[], ◌&&◌, ◌∙◌, ◌∷◌, ◌≡◌, ap, arith, Bool, false, inl, inr, List, map, not, option_map, refl, rules, Some, subst, suc, sym, true, zero, ℕ}
use Rattle.pdc_history.proofs.Names.{◌==◌, ◌||◌, ◌⊎◌, are_distinct, ConfigFields, Contains, Contains-append_cases, false≢true, Fields, FrameLaws, given_in, Happened, IsConfig, IsData, IsFrame, IsHistory, IsOneBody, IsOneSection, IsValid, life_of, LifeLaws, list_any, output_of, Pmu, PmusSendTheirOwn, row_fields, same_Some, SectionFields, Sends, sent, sent_at, slice_get, slice_get-map, stream_of, World}
use Rattle.pdc_history.proofs.{Lists.{head_of, none_there}, Senders.{ByPublish, BySend, ByTick, layout_fields, no_pmu_is_own, sent_as, SentAs}}

-- ---- distinct numbers stand at one place each

either_false : (a b : Bool) → (a || b) ≡ false → (a ≡ false) × (b ≡ false)
either_false false b h = (refl, h)
either_false true b h = absurd (false≢true (sym h))

is_same_number : (n : ℕ) → (n == n) ≡ true
is_same_number n = search rules

none_same : (x : ℕ) (xs : List ℕ) (q : ℕ) → list_any (λ other. other == x) xs ≡ false → slice_get xs q ≡ Some x → ⊥
none_same x [] q h k = none_there q x k
none_same x (y ∷ xs) zero h k =
    let same : (y == x) ≡ true = subst (λ (n : ℕ). (n == x) ≡ true) (sym (same_Some y x k)) (is_same_number x) in
    false≢true (sym (either_false (y == x) (list_any (λ other. other == x) xs) h).0 ∙ same)
none_same x (y ∷ xs) (suc q) h k = none_same x xs q (either_false (y == x) (list_any (λ other. other == x) xs) h).1 k

pub not_and : (a b : Bool) → (not a && b) ≡ true → (a ≡ false) × (b ≡ true)
not_and false b h = (refl, h)
not_and true b h = absurd (false≢true h)

pub one_place : (xs : List ℕ) (p q n : ℕ) → are_distinct xs ≡ true → slice_get xs p ≡ Some n → slice_get xs q ≡ Some n → p ≡ q
one_place [] p q n d a b = none_there p n a
one_place (x ∷ xs) zero zero n d a b = refl
one_place (x ∷ xs) zero (suc q) n d a b =
    absurd (none_same x xs q (not_and (list_any (λ other. other == x) xs) (are_distinct xs) d).0 (b ∙ sym a))
one_place (x ∷ xs) (suc p) zero n d a b =
    absurd (none_same x xs p (not_and (list_any (λ other. other == x) xs) (are_distinct xs) d).0 (a ∙ sym b))
one_place (x ∷ xs) (suc p) (suc q) n d a b = ap suc (one_place xs p q n (not_and (list_any (λ other. other == x) xs) (are_distinct xs) d).1 a b)

-- PMUs that agree on a number that no two have alike are one
one_pmu : (f : Pmu → ℕ) (pmus : List Pmu) (p q : ℕ) (x y : Pmu) → are_distinct (map f pmus) ≡ true → slice_get pmus p ≡ Some x → slice_get pmus q ≡ Some y → f x ≡ f y → x ≡ y
one_pmu f pmus p q x y d a b same =
    let first : slice_get (map f pmus) p ≡ Some (f x) = slice_get-map f pmus p ∙ ap (option_map f) a in
    let second : slice_get (map f pmus) q ≡ Some (f x) = slice_get-map f pmus q ∙ ap (option_map f) b ∙ ap Some (sym same) in
    let place : p ≡ q = one_place (map f pmus) p q (f x) d first second in
    same_Some x y (sym a ∙ ap (slice_get pmus) place ∙ b)

pub distinct_rest : (x : ℕ) (xs : List ℕ) → are_distinct (x ∷ xs) ≡ true → are_distinct xs ≡ true
distinct_rest x xs d = (not_and (list_any (λ other. other == x) xs) (are_distinct xs) d).1

pub pmu_of_stream : (W : World) (p q : ℕ) (x y : Pmu) → slice_get W.a.settings.pmus.items p ≡ Some x → slice_get W.a.settings.pmus.items q ≡ Some y → x.stream.value ≡ y.stream.value → x ≡ y
pmu_of_stream W p q x y a b same =
    one_pmu (λ (pmu : Pmu). pmu.stream.value) W.a.settings.pmus.items p q x y
    (distinct_rest W.a.settings.output.id.value (map (λ (pmu : Pmu). pmu.stream.value) W.a.settings.pmus.items) W.a.settings.streams) a b same

pub pmu_of_source : (W : World) (p q : ℕ) (x y : Pmu) → slice_get W.a.settings.pmus.items p ≡ Some x → slice_get W.a.settings.pmus.items q ≡ Some y → x.source ≡ y.source → x ≡ y
pmu_of_source W p q x y a b same =
    one_pmu (λ (pmu : Pmu). pmu.source) W.a.settings.pmus.items p q x y
    (distinct_rest W.a.settings.output.id.value (map (λ (pmu : Pmu). pmu.source) W.a.settings.pmus.items) W.a.settings.sources) a b same

-- ---- a frame of a PMU was sent by it, under the premises of a send

record IsNewSend (W : World) (H : List Happened) (h : Happened) (pmu : Pmu) (bytes : List ℕ) : Type 0 where
  is : h ≡ Sends bytes
  one_body : IsOneBody W H pmu bytes
  one_section : IsOneSection W H pmu bytes

new_send : LifeLaws → FrameLaws → (W : World) (H : List Happened) (h : Happened) (p : ℕ) (pmu : Pmu) (bytes : List ℕ) (f : Fields) → IsHistory W (h ∷ H) → slice_get W.a.settings.pmus.items p ≡ Some pmu → IsFrame bytes f → f.id ≡ pmu.stream.value
    → SentAs W H h bytes → IsNewSend W H h pmu bytes
new_send L F W H h p pmu bytes f is listed frame id (BySend same may) =
    let one : f ≡ may.of_pmu.fields = F.one_frame bytes f may.of_pmu.fields frame may.of_pmu.of_stream.frame in
    let it : may.pmu ≡ pmu = pmu_of_stream W may.p p may.pmu pmu may.of_pmu.listed listed (sym may.of_pmu.of_stream.id ∙ sym (ap (λ (x : Fields). x.id) one) ∙ id) in
    record {
      is = same;
      one_body = subst (λ (x : Pmu). IsOneBody W H x bytes) it may.one_body;
      one_section = subst (λ (x : Pmu). IsOneSection W H x bytes) it may.one_section;
    }
new_send L F W H h p pmu bytes f is listed frame id (ByTick v e same adopts spelled layout) =
    let one : f ≡ layout_fields (given_in W H v) (e ∷ life_of H v) = F.one_frame bytes f (layout_fields (given_in W H v) (e ∷ life_of H v)) frame layout in
    absurd (no_pmu_is_own W H v p pmu is.1 listed (sym id ∙ ap (λ (x : Fields). x.id) one))
new_send L F W H h p pmu bytes f is listed frame id (ByPublish v row same spelled of_row) =
    let one : f ≡ row_fields (output_of W v) row = F.one_frame bytes f (row_fields (output_of W v) row) frame of_row in
    absurd (no_pmu_is_own W H v p pmu is.1 listed (sym id ∙ ap (λ (x : Fields). x.id) one))

same_bytes : (h : Happened) (bytes other : List ℕ) → h ≡ Sends bytes → h ≡ Sends other → bytes ≡ other
same_bytes h bytes other a b = let e : Sends bytes ≡ Sends other = sym a ∙ b in cc

-- ---- one body

one_payload : FrameLaws → (W : World) (pmu : Pmu) (bytes : List ℕ) (i j q r : ℕ) (payload body : List ℕ) → IsData (stream_of W.a.settings pmu) bytes i q payload → IsData (stream_of W.a.settings pmu) bytes j r body → payload ≡ body
one_payload F W pmu bytes i j q r payload body a b =
    sym a.same_payload ∙ ap (λ (x : Fields). x.payload) (F.one_frame bytes a.fields b.fields a.of_stream.frame b.of_stream.frame) ∙ b.same_payload

pub one_body : LifeLaws → FrameLaws → (W : World) (H : List Happened) (p : ℕ) (pmu : Pmu) (bytes other : List ℕ) (i q r : ℕ) (payload body : List ℕ) → IsHistory W H → slice_get W.a.settings.pmus.items p ≡ Some pmu
    → Contains (sent W H) bytes → Contains (sent W H) other → IsData (stream_of W.a.settings pmu) bytes i q payload → IsData (stream_of W.a.settings pmu) other i r body → payload ≡ body
one_body L F W [] p pmu bytes other i q r payload body is listed a b d e = absurd (omega (arith, a.1))
one_body L F W (h ∷ H) p pmu bytes other i q r payload body is listed a b d e =
    both (λ x y. one_body L F W H p pmu bytes other i q r payload body is.1 listed x y d e)
    (Contains-append_cases (sent W H) (sent_at W H h) bytes a) (Contains-append_cases (sent W H) (sent_at W H h) other b)
  where
    send : (x : List ℕ) (n m : ℕ) (y : List ℕ) → IsData (stream_of W.a.settings pmu) x n m y → Contains (sent_at W H h) x → IsNewSend W H h pmu x
    send x n m y k now = new_send L F W H h p pmu x k.fields is listed k.of_stream.frame k.of_stream.id (sent_as L F W H h x is now)

    both : (Contains (sent W H) bytes → Contains (sent W H) other → payload ≡ body) → Contains (sent W H) bytes ⊎ Contains (sent_at W H h) bytes → Contains (sent W H) other ⊎ Contains (sent_at W H h) other → payload ≡ body
    both k (inl x) (inl y) = k x y
    both k (inr x) (inl y) = (send bytes i q payload d x).one_body other i q r payload body y d e
    both k (inl x) (inr y) = sym ((send other i r body e y).one_body bytes i r q body payload x e d)
    both k (inr x) (inr y) =
        let same : bytes ≡ other = same_bytes h bytes other (send bytes i q payload d x).is (send other i r body e y).is in
        one_payload F W pmu other i i q r payload body (subst (λ (z : List ℕ). IsData (stream_of W.a.settings pmu) z i q payload) same d) e

-- ---- one section

one_valid : FrameLaws → (W : World) (pmu : Pmu) (bytes : List ℕ) (s t : SectionFields) → IsValid W.a.settings pmu bytes s → IsValid W.a.settings pmu bytes t → s ≡ t
one_valid F W pmu bytes s t a b =
    let frame : a.base.has.fields ≡ b.base.has.fields = F.one_frame bytes a.base.has.fields b.base.has.fields a.base.has.of_stream.frame b.base.has.of_stream.frame in
    let config : a.config ≡ b.config =
    F.one_config b.base.has.fields.payload a.config b.config (subst (λ (x : Fields). IsConfig x.payload a.config) frame a.base.has.config) b.base.has.config in
    head_of (sym a.one ∙ ap (λ (x : ConfigFields). x.sections) config ∙ b.one)

pub one_section : LifeLaws → FrameLaws → (W : World) (H : List Happened) (p : ℕ) (pmu : Pmu) (bytes other : List ℕ) (s t : SectionFields) → IsHistory W H → slice_get W.a.settings.pmus.items p ≡ Some pmu
    → Contains (sent W H) bytes → Contains (sent W H) other → IsValid W.a.settings pmu bytes s → IsValid W.a.settings pmu other t → s.count ≡ t.count → s.bytes ≡ t.bytes
one_section L F W [] p pmu bytes other s t is listed a b d e same = absurd (omega (arith, a.1))
one_section L F W (h ∷ H) p pmu bytes other s t is listed a b d e same =
    both (λ x y. one_section L F W H p pmu bytes other s t is.1 listed x y d e same)
    (Contains-append_cases (sent W H) (sent_at W H h) bytes a) (Contains-append_cases (sent W H) (sent_at W H h) other b)
  where
    send : (x : List ℕ) (z : SectionFields) → IsValid W.a.settings pmu x z → Contains (sent_at W H h) x → IsNewSend W H h pmu x
    send x z k now = new_send L F W H h p pmu x k.base.has.fields is listed k.base.has.of_stream.frame k.base.has.of_stream.id (sent_as L F W H h x is now)

    both : (Contains (sent W H) bytes → Contains (sent W H) other → s.bytes ≡ t.bytes) → Contains (sent W H) bytes ⊎ Contains (sent_at W H h) bytes → Contains (sent W H) other ⊎ Contains (sent_at W H h) other → s.bytes ≡ t.bytes
    both k (inl x) (inl y) = k x y
    both k (inr x) (inl y) = (send bytes s d x).one_section other s t y d e same
    both k (inl x) (inr y) = sym ((send other t e y).one_section bytes t s x e d (sym same))
    both k (inr x) (inr y) =
        let one : bytes ≡ other = same_bytes h bytes other (send bytes s d x).is (send other t e y).is in
        ap (λ (z : SectionFields). z.bytes) (one_valid F W pmu other s t (subst (λ (z : List ℕ). IsValid W.a.settings pmu z s) one d) e)

-- ---- no frame of a PMU is sent by another

pub pmus_send_their_own : LifeLaws → FrameLaws → PmusSendTheirOwn
pmus_send_their_own L F W H h p pmu bytes fields is listed among of_stream =
    (new_send L F W H h p pmu bytes fields is listed of_stream.frame of_stream.id (sent_as L F W H h bytes is among)).is
