-- What is asked reads as one event, or is a fault, for one cause.
use Rattle.std.proofs.Common.{[], ◌&&◌, ◌∙◌, ◌∷◌, ◌≡◌, ap, arith, Bool, false, inl, inr, List, map, not, refl, Some, subst, sym, true, ℕ}
use Rattle.pdc_history.specs.Asked.{Do}
use Rattle.pdc_history.proofs.Names.{◌==◌, ◌||◌, ◌⊎◌, Act, are_distinct, AskedIsReadOnce, Bring, Brings, BringsToNamed, Cause, CausesAreOne, Cfg2, CoreKind, DataFrame, Event, false≢true, FaultsMayNotHappen, Fields, Foreign, FrameLaws, Happened, HasOtherBody, HasOtherSection, IsFault, IsNamed, IsOfPmu, IsOneBody, IsOneSection, IsUnnamed, Junk, kind_of, list_any, MayCome, MayHappen, MaySend, Miss, NoSuchFrame, OfMerger, OfNode, OtherBody, OtherSection, Pmu, Publish, ReadsOnce, same_Some, Send, sent, SentMayCome, slice_get, slice_get_within, StartsUsedUp, stream_ids, TickAt, To, Who, World}
use Rattle.pdc_life.proofs.OneLife.{says_once}
use Rattle.pdc_history.proofs.{Lists.{place_there}, One.{distinct_rest, not_and, one_place, pmu_of_stream}}
use Rattle.pdc_history.specs.Event as events

-- ---- one event

-- the ids of a core's streams are distinct
two_distinct : (a b : ℕ) (ids : List ℕ) → are_distinct (a ∷ b ∷ ids) ≡ true → are_distinct (a ∷ b ∷ []) ≡ true
two_distinct a b ids d = from_first (b == a) (list_any (λ other. other == a) ids) (not_and (list_any (λ other. other == a) (b ∷ ids)) (are_distinct (b ∷ ids)) d).0
  where
    from_first : (x y : Bool) → (x || y) ≡ false → (not (x || false) && (not false && true)) ≡ true
    from_first false y h = refl
    from_first true y h = absurd (false≢true (sym h))

distinct_ids : (kind : CoreKind) → are_distinct (stream_ids kind) ≡ true
distinct_ids (OfNode settings) = distinct_rest settings.output.id.value (map (λ (pmu : Pmu). pmu.stream.value) settings.pmus.items) settings.streams
distinct_ids (OfMerger settings) = two_distinct settings.first.id.value settings.second.id.value settings.sources.items settings.distinct

one_stream : FrameLaws → (W : World) (who : Who) (bytes : List ℕ) (s t : ℕ) → IsNamed (stream_ids (kind_of W who)) bytes s → IsNamed (stream_ids (kind_of W who)) bytes t → s ≡ t
one_stream F W who bytes s t a b =
    let one : a.fields ≡ b.fields = F.one_frame bytes a.fields b.fields a.frame b.frame in
    one_place (stream_ids (kind_of W who)) s t b.fields.id (distinct_ids (kind_of W who)) (a.named ∙ ap (λ (f : Fields). Some f.id) one) b.named

one_brings : ReadsOnce → (W : World) (who : Who) (s : ℕ) (bytes : List ℕ) (a b : Event) → Brings W who s bytes a → Brings W who s bytes b → a ≡ b
one_brings N W who s bytes a b x y =
    x.is ∙ ap (Bring who s bytes) (says_once N (kind_of W who) s bytes x.arrival y.arrival x.says y.says) ∙ sym y.is

one_named : FrameLaws → ReadsOnce → (W : World) (who : Who) (bytes : List ℕ) (a b : Event) → BringsToNamed W who bytes a → BringsToNamed W who bytes b → a ≡ b
one_named F N W who bytes a b x y =
    let stream : x.stream ≡ y.stream = one_stream F W who bytes x.stream y.stream x.names y.names in
    one_brings N W who y.stream bytes a b (subst (λ (s : ℕ). Brings W who s bytes a) stream x.brings) y.brings

-- named or not, where what is not named reads as one event
one_read : FrameLaws → ReadsOnce → (W : World) (who : Who) (bytes : List ℕ) (Else : Event → Type 0) (a b : Event)
    → (Else a → Else b → a ≡ b) → BringsToNamed W who bytes a ⊎ (IsUnnamed (stream_ids (kind_of W who)) bytes × Else a)
    → BringsToNamed W who bytes b ⊎ (IsUnnamed (stream_ids (kind_of W who)) bytes × Else b) → a ≡ b
one_read F N W who bytes Else a b one (inl x) (inl y) = one_named F N W who bytes a b x y
one_read F N W who bytes Else a b one (inl x) (inr y) = absurd (y.0 x.stream x.names)
one_read F N W who bytes Else a b one (inr x) (inl y) = absurd (x.0 y.stream y.names)
one_read F N W who bytes Else a b one (inr x) (inr y) = one x.1 y.1

pub asked_is_read_once : FrameLaws → ReadsOnce → AskedIsReadOnce
asked_is_read_once F N W H (To who number) a b x y =
    let same : x.bytes ≡ y.bytes = same_Some x.bytes y.bytes (sym x.there ∙ y.there) in
    one_read F N W who y.bytes (λ e. e ≡ Miss who) a b (λ p q. p ∙ sym q)
    (subst (λ (bs : List ℕ). BringsToNamed W who bs a ⊎ (IsUnnamed (stream_ids (kind_of W who)) bs × (a ≡ Miss who))) same x.read) y.read
asked_is_read_once F N W H (Junk who bytes) a b x y = one_read F N W who bytes (Brings W who 0 bytes) a b (one_brings N W who 0 bytes a b) x y
asked_is_read_once F N W H asked a b x y = x ∙ sym y

-- ---- one cause

-- data is no configuration
not_both : FrameLaws → (W : World) (H : List Happened) (bytes : List ℕ) → HasOtherBody W H bytes → HasOtherSection W H bytes → ⊥
not_both F W H bytes a b =
    let one : a.is_data.fields ≡ b.valid.base.has.fields = F.one_frame bytes a.is_data.fields b.valid.base.has.fields a.is_data.of_stream.frame b.valid.base.has.of_stream.frame in
    let kinds : DataFrame ≡ Cfg2 = sym a.is_data.kind ∙ ap (λ (f : Fields). f.kind) one ∙ b.valid.base.has.kind in
    cc

send_cause : FrameLaws → (W : World) (H : List Happened) (bytes : List ℕ) (a b : Cause) → IsFault W H (Send bytes) a → IsFault W H (Send bytes) b → a ≡ b
send_cause F W H bytes OtherBody OtherBody x y = refl
send_cause F W H bytes OtherSection OtherSection x y = refl
send_cause F W H bytes Foreign Foreign x y = refl
send_cause F W H bytes OtherBody OtherSection x y = absurd (not_both F W H bytes x y)
send_cause F W H bytes OtherSection OtherBody x y = absurd (not_both F W H bytes y x)
send_cause F W H bytes OtherBody Foreign x y = absurd (y x.p x.pmu x.of_pmu)
send_cause F W H bytes Foreign OtherBody x y = absurd (x y.p y.pmu y.of_pmu)
send_cause F W H bytes OtherSection Foreign x y = absurd (y x.p x.pmu x.of_pmu)
send_cause F W H bytes Foreign OtherSection x y = absurd (x y.p y.pmu y.of_pmu)
send_cause F W H bytes NoSuchFrame b x y = absurd x
send_cause F W H bytes StartsUsedUp b x y = absurd x
send_cause F W H bytes a b x y = absurd y

to_cause : (W : World) (H : List Happened) (who : Who) (number : ℕ) (a : Cause) → IsFault W H (To who number) a → a ≡ NoSuchFrame
to_cause W H who number NoSuchFrame x = refl
to_cause W H who number a x = absurd x

junk_cause : (W : World) (H : List Happened) (who : Who) (bytes : List ℕ) (a : Cause) → IsFault W H (Junk who bytes) a → a ≡ Foreign
junk_cause W H who bytes Foreign x = refl
junk_cause W H who bytes a x = absurd x

act_cause : (W : World) (H : List Happened) (who : Who) (act : Act) (a : Cause) → IsFault W H (Do who act) a → a ≡ StartsUsedUp
act_cause W H who act StartsUsedUp x = refl
act_cause W H who act a x = absurd x

pub causes_are_one : FrameLaws → CausesAreOne
causes_are_one F W H (Send bytes) a b x y = send_cause F W H bytes a b x y
causes_are_one F W H (To who number) a b x y = to_cause W H who number a x ∙ sym (to_cause W H who number b y)
causes_are_one F W H (Junk who bytes) a b x y = junk_cause W H who bytes a x ∙ sym (junk_cause W H who bytes b y)
causes_are_one F W H (Do who act) a b x y = act_cause W H who act a x ∙ sym (act_cause W H who act b y)

-- ---- a fault may not happen

-- a frame is of one PMU
same_sender : FrameLaws → (W : World) (p q : ℕ) (x y : Pmu) (bytes : List ℕ) → IsOfPmu W p x bytes → IsOfPmu W q y bytes → x ≡ y
same_sender F W p q x y bytes a b =
    let one : a.fields ≡ b.fields = F.one_frame bytes a.fields b.fields a.of_stream.frame b.of_stream.frame in
    pmu_of_stream W p q x y a.listed b.listed (sym a.of_stream.id ∙ ap (λ (f : Fields). f.id) one ∙ b.of_stream.id)

no_send : FrameLaws → (W : World) (H : List Happened) (bytes : List ℕ) (cause : Cause) → IsFault W H (Send bytes) cause → MaySend W H bytes → ⊥
no_send F W H bytes OtherBody x may =
    let same : may.pmu ≡ x.pmu = same_sender F W may.p x.p may.pmu x.pmu bytes may.of_pmu x.of_pmu in
    x.differs (subst (λ (pmu : Pmu). IsOneBody W H pmu bytes) same may.one_body x.other x.instant x.quality x.its_quality x.payload x.its_payload x.among x.is_data x.was)
no_send F W H bytes OtherSection x may =
    let same : may.pmu ≡ x.pmu = same_sender F W may.p x.p may.pmu x.pmu bytes may.of_pmu x.of_pmu in
    x.differs (subst (λ (pmu : Pmu). IsOneSection W H pmu bytes) same may.one_section x.other x.section x.its_section x.among x.valid x.was x.count)
no_send F W H bytes Foreign x may = x may.p may.pmu may.of_pmu
no_send F W H bytes cause x may = x

brought : (W : World) (H : List Happened) (who : Who) (s : ℕ) (bytes : List ℕ) (event : Event) → (k : Brings W who s bytes event) → MayHappen W H event → MayCome W H who s bytes k.arrival
brought W H who s bytes event k may = subst (MayHappen W H) k.is may

no_start : (W : World) (H : List Happened) (who : Who) (act : Act) → IsFault W H (Do who act) StartsUsedUp → MayHappen W H (events.Do who act) → ⊥
no_start W H who (TickAt now) x may = x
no_start W H who Publish x may = x
no_start W H who act x may = omega (arith, x, may)

pub faults_may_not_happen : FrameLaws → FaultsMayNotHappen
faults_may_not_happen F W H (Send bytes) cause event x read may = no_send F W H bytes cause x (subst (MayHappen W H) read may)
faults_may_not_happen F W H (To who number) NoSuchFrame event x k may = omega (arith, x, slice_get_within (sent W H) number k.bytes k.there)
faults_may_not_happen F W H (Junk who bytes) Foreign event x (inl k) may = x.1 ((brought W H who k.stream bytes event k.brings may).was_sent x.0)
faults_may_not_happen F W H (Junk who bytes) Foreign event x (inr k) may = x.1 ((brought W H who 0 bytes event k.1 may).was_sent x.0)
faults_may_not_happen F W H (Do who act) StartsUsedUp event x read may = no_start W H who act x (subst (MayHappen W H) read may)
faults_may_not_happen F W H asked cause event x read may = x

-- ---- a frame that was sent may come

may_come : (W : World) (H : List Happened) (who : Who) (number : ℕ) (event : Event) (bytes : List ℕ) → slice_get (sent W H) number ≡ Some bytes → BringsToNamed W who bytes event ⊎ (IsUnnamed (stream_ids (kind_of W who)) bytes × (event ≡ Miss who)) → MayHappen W H event
may_come W H who number event bytes there (inl k) =
    let comes : MayCome W H who k.stream bytes k.brings.arrival = record { says = k.brings.says; was_sent = λ for_one. place_there (sent W H) number bytes there } in
    subst (MayHappen W H) (sym k.brings.is) comes
may_come W H who number event bytes there (inr k) = subst (MayHappen W H) (sym k.1) tt

pub sent_may_come : SentMayCome
sent_may_come W H who number event k = may_come W H who number event k.bytes k.there k.read
