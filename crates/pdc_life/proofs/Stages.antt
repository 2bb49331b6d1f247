-- What bytes say of a stream is found in stages, of the frame, of its kind and of its configuration, and each stage has one input: so they
-- say one thing.
use Rattle.pdc_life.proofs.Names.{◌↔◌, ◌∙◌, ◌≡◌, ◌≢◌, ◌⊎◌, Arrival, BadTag, BytesRefused, ConfigFields, Data, Fields, HasConfig, HasNoInstant, inl, inr, instant_of, IsBroken, IsConfig, IsData, IsFirstFault, IsForeign, IsFrame, IsInstant, IsOfStream, IsOtherKind, IsPayloadFault, List, NoConfiguration, NoFrame, refl, same_Some, Some, Stream, subst, sym, WrongId, WrongKind, ℕ}
use Rattle.pdc_row.specs.pdc_cfg.declared.fault.CfgFault.{CfgFault}
use Rattle.pdc_row.specs.pdc_frame.declared.fault.FrameFault.{FrameFault}
use Rattle.pdc_row.specs.pdc_frame.declared.frame.Kind.TheVariants.{Cfg2, DataFrame}

-- what the laws of frames, of configurations and of instants say
pub record ReadOnce : Type 0 where
  pub same_frame : (bytes : List ℕ) (f g : Fields) → IsFrame bytes f → IsFrame bytes g → f ≡ g
  pub one_fault : (bytes : List ℕ) (a b : FrameFault) → IsFirstFault bytes a → IsFirstFault bytes b → a ≡ b
  pub no_frame_fault : (bytes : List ℕ) (f : Fields) (fault : FrameFault) → IsFrame bytes f → IsFirstFault bytes fault → ⊥
  pub same_config : (payload : List ℕ) (c d : ConfigFields) → IsConfig payload c → IsConfig payload d → c ≡ d
  pub one_payload_fault : (payload : List ℕ) (a b : CfgFault) → IsPayloadFault payload a → IsPayloadFault payload b → a ≡ b
  pub no_payload_fault : (payload : List ℕ) (c : ConfigFields) (fault : CfgFault) → IsConfig payload c → IsPayloadFault payload fault → ⊥
  pub instants : (soc frac time_base rate i : ℕ) → (instant_of soc frac time_base rate ≡ Some i) ↔ IsInstant soc frac time_base rate i

-- ---- a stage: one of two things is there, and what it says follows

abbrev pub Split : {A B : Type 0} (P : A → Type 0) (First : A → Arrival → Type 0) (Q : B → Type 0) (Next : B → Arrival → Type 0) → Arrival → Type 0
Split {A = A} {B = B} P First Q Next a = ((x : A) × P x × First x a) ⊎ ((y : B) × Q y × Next y a)

-- no two of them differ
abbrev pub AreOne : {A : Type 0} → (A → Type 0) → Type 0
AreOne {A = A} P = (x y : A) → P x → P y → x ≡ y

-- what follows each of them is one thing
abbrev pub SayOne : {A : Type 0} → (A → Arrival → Type 0) → Type 0
SayOne {A = A} Next = (x : A) (a b : Arrival) → Next x a → Next x b → a ≡ b

pub same_split : {A B : Type 0} (P : A → Type 0) (First : A → Arrival → Type 0) (Q : B → Type 0) (Next : B → Arrival → Type 0) → AreOne P → SayOne First
    → ((x : A) (y : B) → P x → Q y → ⊥) → AreOne Q → SayOne Next
    → (a b : Arrival) → Split P First Q Next a → Split P First Q Next b → a ≡ b
same_split P First Q Next one first apart other next a b (inl h) (inl k) = first k.0 a b (subst (λ x. First x a) (one h.0 k.0 h.1 k.1) h.2) k.2
same_split P First Q Next one first apart other next a b (inl h) (inr k) = absurd (apart h.0 k.0 h.1 k.1)
same_split P First Q Next one first apart other next a b (inr h) (inl k) = absurd (apart k.0 h.0 k.1 h.1)
same_split P First Q Next one first apart other next a b (inr h) (inr k) = next k.0 a b (subst (λ y. Next y a) (other h.0 k.0 h.1 k.1) h.2) k.2

-- this alone is said
abbrev pub Just : {A : Type 0} → (A → Arrival) → A → Arrival → Type 0
Just said x a = a ≡ said x

pub same_just : {A : Type 0} (said : A → Arrival) → SayOne (Just said)
same_just said x a b h k = h ∙ sym k

-- what is looked for is there, or the bytes are refused
abbrev pub Unless : {A : Type 0} (Q : A → Type 0) (refused : Arrival) (Next : A → Arrival → Type 0) → Arrival → Type 0
Unless {A = A} Q refused Next a = Split (λ (u : Unit {0}). (y : A) → Q y → ⊥) (Just (λ u. refused)) Q Next a

pub same_unless : {A : Type 0} (Q : A → Type 0) (refused : Arrival) (Next : A → Arrival → Type 0) → AreOne Q → SayOne Next → (a b : Arrival)
    → Unless Q refused Next a → Unless Q refused Next b → a ≡ b
same_unless {A = A} Q refused Next one next a b h k =
    same_split (λ (u : Unit {0}). (y : A) → Q y → ⊥) (Just (λ u. refused)) Q Next (λ x y h k. refl) (same_just (λ u. refused))
    (λ x y none h. none y h) one next a b h k

-- ---- the stages, up to what a configuration says

-- what a frame of the stream says: data, a configuration, or neither
abbrev InKind : Stream → (ConfigFields → Arrival → Type 0) → Fields → Arrival → Type 0
InKind stream Next f a =
    Split (λ (u : Unit {0}). f.kind ≡ DataFrame) (λ u. Unless (IsInstant f.soc f.frac stream.time_base stream.rate) (BytesRefused BadTag)
    (Just (λ i. Data i f.quality f.payload)))
    (λ (u : Unit {0}). f.kind ≢ DataFrame) (λ u. Unless (λ (v : Unit {0}). f.kind ≡ Cfg2) (BytesRefused (NoConfiguration WrongKind))
    (λ v. Split (IsPayloadFault f.payload) (Just (λ fault. BytesRefused (NoConfiguration fault))) (IsConfig f.payload) Next)) a

abbrev pub Staged : Stream → (ConfigFields → Arrival → Type 0) → List ℕ → Arrival → Type 0
Staged stream Next bytes a =
    Split (IsFirstFault bytes) (Just (λ fault. BytesRefused (NoFrame fault))) (IsFrame bytes)
    (λ f. Unless (λ (u : Unit {0}). f.id ≡ stream.id) (BytesRefused WrongId) (λ u. InKind stream Next f)) a

module _ (laws : ReadOnce) (stream : Stream) (Next : ConfigFields → Arrival → Type 0) where
  one_instant : (soc frac time_base rate : ℕ) → AreOne (IsInstant soc frac time_base rate)
  one_instant soc frac time_base rate i j h k =
      same_Some i j (sym ((laws.instants soc frac time_base rate i).1 h) ∙ (laws.instants soc frac time_base rate j).1 k)

  same_in_kind : SayOne Next → SayOne (InKind stream Next)
  same_in_kind next f a b h k =
      same_split (λ (u : Unit {0}). f.kind ≡ DataFrame) _ (λ (u : Unit {0}). f.kind ≢ DataFrame) _ (λ x y h k. refl)
      (λ u. same_unless (IsInstant f.soc f.frac stream.time_base stream.rate) (BytesRefused BadTag) (Just (λ i. Data i f.quality f.payload))
      (one_instant f.soc f.frac stream.time_base stream.rate)
      (same_just (λ i. Data i f.quality f.payload)))
      (λ x y h k. k h) (λ x y h k. refl)
      (λ u. same_unless (λ (v : Unit {0}). f.kind ≡ Cfg2) (BytesRefused (NoConfiguration WrongKind)) _ (λ x y h k. refl)
      (λ v. same_split (IsPayloadFault f.payload) (Just (λ fault. BytesRefused (NoConfiguration fault))) (IsConfig f.payload) Next
      (laws.one_payload_fault f.payload) (same_just (λ fault. BytesRefused (NoConfiguration fault)))
      (λ fault c h k. laws.no_payload_fault f.payload c fault k h) (laws.same_config f.payload) next)) a b h k

  pub same_staged : SayOne Next → (bytes : List ℕ) (a b : Arrival) → Staged stream Next bytes a → Staged stream Next bytes b → a ≡ b
  same_staged next bytes a b h k =
      same_split (IsFirstFault bytes) (Just (λ fault. BytesRefused (NoFrame fault))) (IsFrame bytes) _ (laws.one_fault bytes)
      (same_just (λ fault. BytesRefused (NoFrame fault))) (λ fault f h k. laws.no_frame_fault bytes f fault k h) (laws.same_frame bytes)
      (λ f. same_unless (λ (u : Unit {0}). f.id ≡ stream.id) (BytesRefused WrongId) _ (λ x y h k. refl) (λ u. same_in_kind next f)) a b h k

-- ---- what is read went through the stages

module _ (stream : Stream) (Next : ConfigFields → Arrival → Type 0) (bytes : List ℕ) where
  pub of_foreign : IsForeign stream bytes → Staged stream Next bytes (BytesRefused WrongId)
  of_foreign h = inr (h.fields, h.frame, inl (tt, (λ u. h.id), refl))

  of_stream : (f : Fields) (a : Arrival) → IsOfStream stream bytes f → InKind stream Next f a → Staged stream Next bytes a
  of_stream f a h k = inr (f, h.frame, inr (tt, h.id, k))

  not_data : (f : Fields) → f.kind ≡ Cfg2 → f.kind ≢ DataFrame
  not_data f h k = cc

  pub of_other_kind : IsOtherKind stream bytes → Staged stream Next bytes (BytesRefused (NoConfiguration WrongKind))
  of_other_kind h = of_stream h.fields _ h.of_stream (inr (tt, h.not_data, inl (tt, (λ v. h.not_config), refl)))

  pub of_broken : (fault : CfgFault) → IsBroken stream bytes fault → Staged stream Next bytes (BytesRefused (NoConfiguration fault))
  of_broken fault h = of_stream h.fields _ h.of_stream (inr (tt, not_data h.fields h.kind, inr (tt, h.kind, inl (fault, h.cause, refl))))

  pub of_config : (c : ConfigFields) (a : Arrival) → HasConfig stream bytes c → Next c a → Staged stream Next bytes a
  of_config c a h k = of_stream h.fields a h.of_stream (inr (tt, not_data h.fields h.kind, inr (tt, h.kind, inr (c, h.config, k))))

  pub of_no_instant : HasNoInstant stream bytes → Staged stream Next bytes (BytesRefused BadTag)
  of_no_instant h = of_stream h.fields _ h.of_stream (inl (tt, h.kind, inl (tt, h.none, refl)))

  pub of_data : (i quality : ℕ) (payload : List ℕ) → IsData stream bytes i quality payload → Staged stream Next bytes (Data i quality payload)
  of_data i quality payload h =
      of_stream h.fields _ h.of_stream (inl (tt, h.kind, inr (i, h.tag, (λ j. Data i (sym h.same_quality j) (sym h.same_payload j)))))
