-- Whether a data frame can be cut under a layout that was sent can be told.
use Rattle.std.proofs.Common.{[], ◌*◌, ◌+◌, ◌<◌, ◌^◌, ◌∙◌, ◌∷◌, ◌≡◌, ap, arith, inl, inr, length, List, map, refl, subst, sym, ℕ}
use Rattle.pdc_world.proofs.HeadlineNames.{◌⊎◌, AreBytes, body_len_of, bytes_of_blocks, Cfg2, ConfigFields, Fields, HasConfig, Hz50, Hz60, IsConfig, IsCut, IsCutOf, IsCutUnder, IsFrame, IsLayoutUnder, IsOwn, output_in, own_block, own_bytes, own_shape, PartsKeepTheirWords, place_there, SectionFields, Seen, Shape, Stamp, stream_in, sum_by, Who, word_at}
use Rattle.pdc_world.proofs.{Layouts.{has_some_config, HasSomeConfig}, Reading.{config_in, frame_stands_there, is_frame}, Told.{both, either, has_one, HasOne, is_below, is_list, is_number, IsTold, likewise, there}}

-- what is known of configurations and of cuts
pub record CutLaws : Type 0 where
  pub parts : PartsKeepTheirWords
  pub one_config : (payload : List ℕ) (c d : ConfigFields) → IsConfig payload c → IsConfig payload d → c ≡ d
  pub one_cut : (shapes : List Shape) (payload : List ℕ) (a b : List (List ℕ)) → IsCut shapes payload a → IsCut shapes payload b → a ≡ b
  pub size : (shapes : List Shape) (payload : List ℕ) (blocks : List (List ℕ)) → IsCut shapes payload blocks → length payload ≡ sum_by body_len_of shapes
  pub found : (shapes : List Shape) (payload : List ℕ) → AreBytes payload → length payload ≡ sum_by body_len_of shapes → (blocks : List (List ℕ)) × IsCut shapes payload blocks

-- ---- a cut under a stamp and sections

abbrev shapes_of : List SectionFields → List Shape
shapes_of sections = own_shape ∷ map (λ (s : SectionFields). s.shape) sections

abbrev IsSomeCut : List Shape → List ℕ → List ℕ → Type 0
IsSomeCut shapes payload first = (blocks : List (List ℕ)) × IsCut shapes payload (first ∷ blocks)

with_first : CutLaws → (shape : Shape) (shapes : List Shape) (payload first : List ℕ) (blocks : List (List ℕ)) → IsCut (shape ∷ shapes) payload blocks → IsTold (IsSomeCut (shape ∷ shapes) payload first)
with_first C shape shapes payload first [] k = absurd k.shaped
with_first C shape shapes payload first (b ∷ blocks) k =
    likewise (is_list b first) (λ e. (blocks, subst (λ (x : List ℕ). IsCut (shape ∷ shapes) payload (x ∷ blocks)) e k))
    (λ x. (let h : b ∷ blocks ≡ first ∷ x.0 = C.one_cut (shape ∷ shapes) payload (b ∷ blocks) (first ∷ x.0) k x.1 in cc))

by_size : CutLaws → (shape : Shape) (shapes : List Shape) (payload first : List ℕ) → AreBytes payload → IsTold (length payload ≡ sum_by body_len_of (shape ∷ shapes)) → IsTold (IsSomeCut (shape ∷ shapes) payload first)
by_size C shape shapes payload first fits (inl e) =
    let k : (blocks : List (List ℕ)) × IsCut (shape ∷ shapes) payload blocks = C.found (shape ∷ shapes) payload fits e in
    with_first C shape shapes payload first k.0 k.1
by_size C shape shapes payload first fits (inr other) = inr (λ x. other (C.size (shape ∷ shapes) payload (first ∷ x.0) x.1))

is_some_cut : CutLaws → (shape : Shape) (shapes : List Shape) (payload first : List ℕ) → AreBytes payload → IsTold (IsSomeCut (shape ∷ shapes) payload first)
is_some_cut C shape shapes payload first fits = by_size C shape shapes payload first fits (is_number (length payload) (sum_by body_len_of (shape ∷ shapes)))

abbrev IsCutSomehow : Stamp → List SectionFields → List ℕ → Type 0
IsCutSomehow stamp sections payload = (blocks : List (List ℕ)) × IsCutUnder stamp sections payload blocks

is_cut_somehow : CutLaws → (stamp : Stamp) (sections : List SectionFields) (payload : List ℕ) → AreBytes payload → IsTold (IsCutSomehow stamp sections payload)
is_cut_somehow C stamp sections payload fits =
    likewise
    (both (is_below stamp.start (2 ^ 32)) (both (is_below stamp.change (2 ^ 32))
    (is_some_cut C own_shape (map (λ (s : SectionFields). s.shape) sections) payload (own_block stamp.start stamp.change) fits)))
    (λ p. (
      p.1.1.0,
      record {
        start_fits = p.0;
        change_fits = p.1.0;
        cut = λ own phasors analogs digitals. record {
          shaped = (omega (arith, phasors, analogs, digitals), p.1.1.1.shaped.1, p.1.1.1.shaped.2);
          parts = p.1.1.1.parts;
        };
      },
    )) (λ x. (x.1.start_fits, (x.1.change_fits, (x.0, x.1.cut own_shape refl refl refl))))

-- the stamp that a payload bears
abbrev stamp_in : List ℕ → Stamp
stamp_in payload = record { start = word_at payload 6 * 2 ^ 16 + word_at payload 8; change = word_at payload 10 * 2 ^ 16 + word_at payload 12 }

stamp_again : (stamp : Stamp) (blocks : List (List ℕ)) → stamp.start < 2 ^ 32 → stamp.change < 2 ^ 32 → stamp ≡ stamp_in (bytes_of_blocks (own_block stamp.start stamp.change ∷ blocks))
stamp_again stamp blocks s c =
    let start : stamp.start ≡ (stamp_in (bytes_of_blocks (own_block stamp.start stamp.change ∷ blocks))).start = omega (arith, s) in
    let change : stamp.change ≡ (stamp_in (bytes_of_blocks (own_block stamp.start stamp.change ∷ blocks))).change = omega (arith, c) in
    λ i. record { start = start i; change = change i }

same_stamp : (stamp : Stamp) (sections : List SectionFields) (payload : List ℕ) (blocks : List (List ℕ)) → IsCutUnder stamp sections payload blocks → stamp ≡ stamp_in payload
same_stamp stamp sections payload blocks k = stamp_again stamp blocks k.start_fits k.change_fits ∙ ap stamp_in (sym (k.cut own_shape refl refl refl).parts)

-- ---- a layout frame under which it is cut

is_own : (id : ℕ) (bytes : List ℕ) (stamp : Stamp) → IsTold (IsOwn id bytes stamp)
is_own id bytes stamp =
    likewise
    (both (is_below stamp.start (2 ^ 32)) (both (is_below stamp.change (2 ^ 32))
    (either (is_list bytes (own_bytes id Hz50 stamp.start stamp.change)) (is_list bytes (own_bytes id Hz60 stamp.start stamp.change)))))
    (λ p. record { start_fits = p.0; change_fits = p.1.0; spelled = p.1.1 }) (λ k. (k.start_fits, (k.change_fits, k.spelled)))

record Bears (seen : Seen) (who : Who) (stamp : Stamp) (payload bytes : List ℕ) : Type 0 where
  config : ConfigFields
  has : HasConfig (stream_in seen who) bytes config
  own : SectionFields
  sections : List SectionFields
  all : config.sections ≡ own ∷ sections
  itself : IsOwn (output_in seen who).id.value own.bytes stamp
  cut : IsCutSomehow stamp sections payload

abbrev BearsParts : Seen → Who → Stamp → List ℕ → List ℕ → SectionFields → List SectionFields → Type 0
BearsParts seen who stamp payload bytes own sections =
    IsFrame bytes (config_in bytes) × ((word_at bytes 4 ≡ (output_in seen who).id.value) × (IsOwn (output_in seen who).id.value own.bytes stamp × IsCutSomehow stamp sections payload))

same_frame : (seen : Seen) (who : Who) (stamp : Stamp) (payload bytes : List ℕ) (b : Bears seen who stamp payload bytes) → b.has.fields ≡ config_in bytes
same_frame seen who stamp payload bytes b = frame_stands_there Cfg2 bytes b.has.fields b.has.of_stream.frame b.has.kind

config_there : (seen : Seen) (who : Who) (stamp : Stamp) (payload bytes : List ℕ) (b : Bears seen who stamp payload bytes) → IsConfig (config_in bytes).payload b.config
config_there seen who stamp payload bytes b = subst (λ (f : Fields). IsConfig f.payload b.config) (same_frame seen who stamp payload bytes b) b.has.config

bears_of_parts : (seen : Seen) (who : Who) (stamp : Stamp) (payload bytes : List ℕ) (x : HasSomeConfig (config_in bytes).payload) (own : SectionFields) (sections : List SectionFields)
    → x.0.sections ≡ own ∷ sections → BearsParts seen who stamp payload bytes own sections → Bears seen who stamp payload bytes
bears_of_parts seen who stamp payload bytes x own sections e (frame, (id, (itself, cut))) = record {
  config = x.0;
  has = record { fields = config_in bytes; of_stream = record { frame = frame; id = id }; kind = refl; config = x.1 };
  own = own;
  sections = sections;
  all = e;
  itself = itself;
  cut = cut;
}

parts_of_bears : CutLaws → (seen : Seen) (who : Who) (stamp : Stamp) (payload bytes : List ℕ) (x : HasSomeConfig (config_in bytes).payload) (own : SectionFields) (sections : List SectionFields)
    → x.0.sections ≡ own ∷ sections → Bears seen who stamp payload bytes → BearsParts seen who stamp payload bytes own sections
parts_of_bears C seen who stamp payload bytes x own sections e b =
    let same : b.config ≡ x.0 = C.one_config (config_in bytes).payload b.config x.0 (config_there seen who stamp payload bytes b) x.1 in
    let all : b.own ∷ b.sections ≡ own ∷ sections = sym b.all ∙ ap (λ (c : ConfigFields). c.sections) same ∙ e in
    let first : b.own ≡ own = cc in
    let others : b.sections ≡ sections = cc in (
      subst (IsFrame bytes) (same_frame seen who stamp payload bytes b) b.has.of_stream.frame,
      (
        sym (ap (λ (f : Fields). f.id) (same_frame seen who stamp payload bytes b)) ∙ b.has.of_stream.id,
        (
          subst (λ (s : SectionFields). IsOwn (output_in seen who).id.value s.bytes stamp) first b.itself,
          subst (λ (ss : List SectionFields). IsCutSomehow stamp ss payload) others b.cut,
        ),
      ),
    )

no_sections : CutLaws → (seen : Seen) (who : Who) (stamp : Stamp) (payload bytes : List ℕ) (x : HasSomeConfig (config_in bytes).payload) → x.0.sections ≡ [] → Bears seen who stamp payload bytes → ⊥
no_sections C seen who stamp payload bytes x e b =
    let same : b.config ≡ x.0 = C.one_config (config_in bytes).payload b.config x.0 (config_there seen who stamp payload bytes b) x.1 in
    let all : b.own ∷ b.sections ≡ [] = sym b.all ∙ ap (λ (c : ConfigFields). c.sections) same ∙ e in
    cc

by_sections : CutLaws → (seen : Seen) (who : Who) (stamp : Stamp) (payload bytes : List ℕ) → AreBytes payload → (x : HasSomeConfig (config_in bytes).payload) (ss : List SectionFields) → x.0.sections ≡ ss
    → IsTold (Bears seen who stamp payload bytes)
by_sections C seen who stamp payload bytes fits x [] e = inr (no_sections C seen who stamp payload bytes x e)
by_sections C seen who stamp payload bytes fits x (own ∷ sections) e =
    likewise
    (both (is_frame bytes (config_in bytes)) (both (is_number (word_at bytes 4) (output_in seen who).id.value) (both (is_own (output_in seen who).id.value own.bytes stamp)
    (is_cut_somehow C stamp sections payload fits))))
    (bears_of_parts seen who stamp payload bytes x own sections e) (parts_of_bears C seen who stamp payload bytes x own sections e)

by_config : CutLaws → (seen : Seen) (who : Who) (stamp : Stamp) (payload bytes : List ℕ) → AreBytes payload → IsTold (HasSomeConfig (config_in bytes).payload) → IsTold (Bears seen who stamp payload bytes)
by_config C seen who stamp payload bytes fits (inl x) = by_sections C seen who stamp payload bytes fits x x.0.sections refl
by_config C seen who stamp payload bytes fits (inr none) = inr (λ b. none (b.config, config_there seen who stamp payload bytes b))

bears : CutLaws → (seen : Seen) (who : Who) (stamp : Stamp) (payload bytes : List ℕ) → AreBytes payload → IsTold (Bears seen who stamp payload bytes)
bears C seen who stamp payload bytes fits = by_config C seen who stamp payload bytes fits (has_some_config C.parts (config_in bytes).payload)

-- ---- a cut under any layout

pub record IsSomehowCut (seen : Seen) (who : Who) (payload : List ℕ) : Type 0 where
  pub stamp : Stamp
  pub sections : List SectionFields
  pub blocks : List (List ℕ)
  pub is_cut : IsCutOf seen who payload stamp sections blocks

abbrev IsCutSomewhere : Seen → Who → List ℕ → Type 0
IsCutSomewhere seen who payload =
    (((stamp_in payload).change ≡ 0) × IsCutSomehow (stamp_in payload) [] payload) ⊎ HasOne (Bears seen who (stamp_in payload) payload) seen.frames

cut_of_somewhere : (seen : Seen) (who : Who) (payload : List ℕ) → IsCutSomewhere seen who payload → IsSomehowCut seen who payload
cut_of_somewhere seen who payload (inl x) = record {
  stamp = stamp_in payload;
  sections = [];
  blocks = x.1.0;
  is_cut = record { under = inl (x.0, refl); cut = x.1.1 };
}
cut_of_somewhere seen who payload (inr h) = record {
  stamp = stamp_in payload;
  sections = h.3.sections;
  blocks = h.3.cut.0;
  is_cut = record {
    under = inr (record {
      bytes = h.1;
      among = place_there seen.frames h.0 h.1 h.2;
      config = h.3.config;
      has = h.3.has;
      own = h.3.own;
      all = h.3.all;
      itself = h.3.itself;
    });
    cut = h.3.cut.1;
  };
}

somewhere_under : (seen : Seen) (who : Who) (payload : List ℕ) (sections : List SectionFields) → IsCutSomehow (stamp_in payload) sections payload
    → IsLayoutUnder seen who (stamp_in payload) sections → IsCutSomewhere seen who payload
somewhere_under seen who payload sections x (inl a) = inl (a.0, subst (λ (ss : List SectionFields). IsCutSomehow (stamp_in payload) ss payload) a.1 x)
somewhere_under seen who payload sections x (inr l) =
    inr (l.among.0, l.bytes, there seen.frames l.bytes l.among, record { config = l.config; has = l.has; own = l.own; sections = sections; all = l.all; itself = l.itself; cut = x })

somewhere_of_cut : (seen : Seen) (who : Who) (payload : List ℕ) → IsSomehowCut seen who payload → IsCutSomewhere seen who payload
somewhere_of_cut seen who payload k =
    let same : k.stamp ≡ stamp_in payload = same_stamp k.stamp k.sections payload k.blocks k.is_cut.cut in
    let moved : IsCutOf seen who payload (stamp_in payload) k.sections k.blocks = subst (λ (t : Stamp). IsCutOf seen who payload t k.sections k.blocks) same k.is_cut in
    somewhere_under seen who payload k.sections (k.blocks, moved.cut) moved.under

pub is_somehow_cut : CutLaws → (seen : Seen) (who : Who) (payload : List ℕ) → AreBytes payload → IsTold (IsSomehowCut seen who payload)
is_somehow_cut C seen who payload fits =
    likewise
    (either (both (is_number (stamp_in payload).change 0) (is_cut_somehow C (stamp_in payload) [] payload fits))
    (has_one (Bears seen who (stamp_in payload) payload) (λ bytes. bears C seen who (stamp_in payload) payload bytes fits) seen.frames))
    (cut_of_somewhere seen who payload) (somewhere_of_cut seen who payload)
