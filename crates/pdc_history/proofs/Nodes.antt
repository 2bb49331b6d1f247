-- The sections and blocks of a node's lives come from its PMUs.
use Rattle.std.proofs.Common.{[], ◌++◌, ◌∙◌, ◌∷◌, ◌≡◌, ap, arith, inr, List, map, None, Option, option_map, refl, Some, subst, suc, sym, zero, ℕ}
use Rattle.pdc_history.proofs.Names.{A, Answer, append_assoc, Arrival, Arrive, B, BlockLaws, BlockView, Contains, CoreKind, Data, Entry, Fields, given_in, Happened, HasBase, HasBrought, ids_of, IsBody, IsData, IsDataOf, IsForOne, IsHistory, IsLifeOf, IsMade, IsOfStream, IsValid, kind_of, Layout, life_of, LifeLaws, MayCome, none-some, OfNode, Pmu, Reads, same_Some, Says, section_in_force, SectionFields, seen_in, sent, Settings, SettingsAgree, slice_get, slice_get-map, sources_of, Stamp, Stream, stream_ids, stream_of, time_bases_of, WasSent, Who, World}
use Rattle.pdc_history.proofs.{Blocks.{IsSourced}, Lists.{place_there}, Lives.{life_is_life}, Made.{arrival_comes, ComesHere, HasCome}, Moments.{Moment, moment, stays_sent, then}}

-- ---- what came, was sent

-- an arrival of a life: what its bytes said, and that they were sent where they are a frame of a stream
pub record HasArrived (W : World) (H : List Happened) (who : Who) (s : ℕ) (bytes : List ℕ) (arrival : Arrival) (E : List Entry) : Type 0 where
  pub later : List Happened
  pub then : List Happened
  pub stands : H ≡ later ++ then
  pub says : Says (kind_of W who) s bytes arrival
  pub was_sent : IsForOne W who bytes → Contains (sent W then) bytes
  pub life : life_of then who ≡ E

same_coming : (W : World) (H : List Happened) (who : Who) (s : ℕ) (bytes : List ℕ) (arrival : Arrival) (answer : Answer) → (c : HasCome W H who (Arrive s bytes arrival answer)) → MayCome W H who s bytes arrival
same_coming W H who s bytes arrival answer c =
    let stream : c.stream ≡ s = cc in
    let same : c.bytes ≡ bytes = cc in
    let says : c.arrival ≡ arrival = cc in
    rw (stream, same, says) at c.may

pub has_arrived : (W : World) (H : List Happened) (who : Who) (later : List Entry) (s : ℕ) (bytes : List ℕ) (arrival : Arrival) (answer : Answer) (E : List Entry) → IsHistory W H
    → life_of H who ≡ later ++ Arrive s bytes arrival answer ∷ E → HasArrived W H who s bytes arrival E
has_arrived W H who later s bytes arrival answer E is stands =
    let m : Moment W H who (Arrive s bytes arrival answer) E = moment W H who later (Arrive s bytes arrival answer) E stands in
    let made : IsMade W m.earlier m.h = (then W H who (Arrive s bytes arrival answer) E is m).0 in
    let here : ComesHere W m.earlier m.h who (Arrive s bytes arrival answer) = arrival_comes W m.earlier m.h who s bytes arrival answer made m.entry in
    let may : MayCome W m.earlier who s bytes arrival = same_coming W m.earlier who s bytes arrival answer here.come in
    record {
      later = m.later ++ m.h ∷ [];
      then = m.earlier;
      stands = m.stands ∙ sym (append_assoc m.later (m.h ∷ []) m.earlier);
      says = may.says;
      was_sent = may.was_sent;
      life = m.life;
    }

pub sent_since : (W : World) (H later then : List Happened) (bytes : List ℕ) → H ≡ later ++ then → Contains (sent W then) bytes → Contains (sent W H) bytes
sent_since W H later then bytes q k = subst (λ (X : List Happened). Contains (sent W X) bytes) (sym q) (stays_sent W later then bytes k)

-- ---- a node

-- what a node's settings have in common with those of node A
pub record IsNode (W : World) (who : Who) (settings : Settings) : Type 0 where
  pub kind : kind_of W who ≡ OfNode settings
  pub streams : ids_of settings.pmus.items ≡ ids_of W.a.settings.pmus.items
  pub time_bases : time_bases_of settings.pmus.items ≡ time_bases_of W.a.settings.pmus.items
  pub sources : sources_of settings.pmus.items ≡ sources_of W.a.settings.pmus.items
  pub rate : settings.output.rate ≡ W.a.settings.output.rate

pub node_a : (W : World) → IsNode W A W.a.settings
node_a W = record {
  kind = refl;
  streams = refl;
  time_bases = refl;
  sources = refl;
  rate = refl;
}

pub node_b : (W : World) → SettingsAgree W → IsNode W B W.b.settings
node_b W k = record {
  kind = refl;
  streams = k.streams;
  time_bases = k.time_bases;
  sources = k.sources;
  rate = k.rate B;
}

-- the PMU of the same place in A's settings
record SamePmu (W : World) (p : ℕ) (pmu : Pmu) : Type 0 where
  other : Pmu
  listed : slice_get W.a.settings.pmus.items p ≡ Some other
  stream : pmu.stream.value ≡ other.stream.value
  time_base : pmu.time_base ≡ other.time_base
  source : pmu.source ≡ other.source

pub at_place : (f : Pmu → ℕ) (pmus others : List Pmu) (p : ℕ) (pmu : Pmu) → map f pmus ≡ map f others → slice_get pmus p ≡ Some pmu → option_map f (slice_get others p) ≡ Some (f pmu)
at_place f pmus others p pmu q listed = sym (slice_get-map f others p) ∙ sym (ap (λ (ns : List ℕ). slice_get ns p) q) ∙ slice_get-map f pmus p ∙ ap (option_map f) listed

there : (W : World) (p : ℕ) (pmu : Pmu) (o : Option Pmu) → slice_get W.a.settings.pmus.items p ≡ o → option_map (λ (x : Pmu). x.stream.value) o ≡ Some pmu.stream.value → option_map (λ (x : Pmu). x.time_base) o ≡ Some pmu.time_base
    → option_map (λ (x : Pmu). x.source) o ≡ Some pmu.source → SamePmu W p pmu
there W p pmu None e a b c = absurd (none-some pmu.stream.value a)
there W p pmu (Some other) e a b c = record {
  other = other;
  listed = e;
  stream = sym (same_Some other.stream.value pmu.stream.value a);
  time_base = sym (same_Some other.time_base pmu.time_base b);
  source = sym (same_Some other.source pmu.source c);
}

same_pmu : (W : World) (who : Who) (settings : Settings) (p : ℕ) (pmu : Pmu) → IsNode W who settings → slice_get settings.pmus.items p ≡ Some pmu → SamePmu W p pmu
same_pmu W who settings p pmu n listed =
    there W p pmu (slice_get W.a.settings.pmus.items p) refl
    (at_place (λ (x : Pmu). x.stream.value) settings.pmus.items W.a.settings.pmus.items p pmu n.streams listed)
    (at_place (λ (x : Pmu). x.time_base) settings.pmus.items W.a.settings.pmus.items p pmu n.time_bases listed)
    (at_place (λ (x : Pmu). x.source) settings.pmus.items W.a.settings.pmus.items p pmu n.sources listed)

same_stream : (W : World) (who : Who) (settings : Settings) (p : ℕ) (pmu : Pmu) → IsNode W who settings → (k : SamePmu W p pmu) → stream_of settings pmu ≡ stream_of W.a.settings k.other
same_stream W who settings p pmu n k = λ i. record { id = k.stream i; time_base = k.time_base i; rate = n.rate i }

-- a frame of a PMU is one of a stream of the node
pub has_id : (pmus : List Pmu) (p : ℕ) (pmu : Pmu) → slice_get pmus p ≡ Some pmu → Contains (ids_of pmus) pmu.stream.value
has_id pmus p pmu listed = place_there (ids_of pmus) p pmu.stream.value (slice_get-map (λ (x : Pmu). x.stream.value) pmus p ∙ ap (option_map (λ (x : Pmu). x.stream.value)) listed)

-- ---- its sections

-- the section is that of a valid configuration of the PMU of this column
record IsOfColumn (W : World) (H : List Happened) (c : ℕ) (s : SectionFields) : Type 0 where
  pmu : Pmu
  listed : slice_get W.a.settings.pmus.items c ≡ Some pmu
  bytes : List ℕ
  among : Contains (sent W H) bytes
  valid : IsValid W.a.settings pmu bytes s

-- what a layout of a PMU says: its one section
record SaysOne (settings : Settings) (p c : ℕ) (pmu : Pmu) (bytes : List ℕ) (s : SectionFields) : Type 0 where
  column : c ≡ p
  valid : IsValid settings pmu bytes s

one_part : (c d : ℕ) (s t : SectionFields) → Contains {X = ℕ × SectionFields} ((d, t) ∷ []) (c, s) → (d ≡ c) × (t ≡ s)
one_part c d s t (zero, h, q) = (ap (λ (x : ℕ × SectionFields). x.0) q, ap (λ (x : ℕ × SectionFields). x.1) q)
one_part c d s t (suc k, h, q) = absurd (omega (arith, h))

says_one : (settings : Settings) (p c : ℕ) (pmu : Pmu) (bytes : List ℕ) (stamp : Option Stamp) (sections : List (ℕ × SectionFields)) (s : SectionFields) → Reads settings p pmu bytes (Layout stamp sections) → Contains sections (c, s)
    → SaysOne settings p c pmu bytes s
says_one settings p c pmu bytes None ((d, t) ∷ []) s reads k =
    let one = one_part c d s t k in
    record { column = sym one.0 ∙ reads.0; valid = subst (IsValid settings pmu bytes) one.1 reads.1 }
says_one settings p c pmu bytes stamp sections s reads k = absurd reads

valid_at_a : (W : World) (who : Who) (settings : Settings) (p : ℕ) (pmu : Pmu) (bytes : List ℕ) (s : SectionFields) → IsNode W who settings → (k : SamePmu W p pmu) → IsValid settings pmu bytes s → IsValid W.a.settings k.other bytes s
valid_at_a W who settings p pmu bytes s n k v = record {
  config = v.config;
  base = subst (λ (x : Stream). HasBase x bytes v.config) (same_stream W who settings p pmu n k) v.base;
  one = v.one;
  source = v.source ∙ k.source;
}

-- bytes that read as a frame of a PMU are for the node
frame_for_one : (W : World) (who : Who) (settings : Settings) (p : ℕ) (pmu : Pmu) (bytes : List ℕ) (f : Fields) → IsNode W who settings → slice_get settings.pmus.items p ≡ Some pmu → IsOfStream (stream_of settings pmu) bytes f → IsForOne W who bytes
frame_for_one W who settings p pmu bytes f n listed of_stream = record {
  fields = f;
  frame = of_stream.frame;
  listed = subst (λ (ids : List ℕ). Contains ids f.id) (sym (ap stream_ids n.kind)) (subst (Contains (ids_of settings.pmus.items)) (sym of_stream.id) (has_id settings.pmus.items p pmu listed));
}

-- what came for the PMU of a stream is of its column
came_for : (W : World) (who : Who) (settings : Settings) (H later then : List Happened) (p c : ℕ) (pmu : Pmu) (bytes : List ℕ) (s : SectionFields) → IsNode W who settings → slice_get settings.pmus.items p ≡ Some pmu → H ≡ later ++ then
    → (IsForOne W who bytes → Contains (sent W then) bytes) → SaysOne settings p c pmu bytes s → IsOfColumn W H c s
came_for W who settings H later then p c pmu bytes s n listed stands was one =
    let k : SamePmu W p pmu = same_pmu W who settings p pmu n listed in
    record {
      pmu = k.other;
      listed = subst (λ (x : ℕ). slice_get W.a.settings.pmus.items x ≡ Some k.other) (sym one.column) k.listed;
      bytes = bytes;
      among = sent_since W H later then bytes stands (was (frame_for_one W who settings p pmu bytes one.valid.base.has.fields n listed one.valid.base.has.of_stream));
      valid = valid_at_a W who settings p pmu bytes s n k one.valid;
    }

came_in : (W : World) (who : Who) (settings : Settings) (H later then : List Happened) (p c : ℕ) (bytes : List ℕ) (stamp : Option Stamp) (sections : List (ℕ × SectionFields)) (s : SectionFields) → IsNode W who settings → H ≡ later ++ then
    → (IsForOne W who bytes → Contains (sent W then) bytes) → Contains sections (c, s) → Says (OfNode settings) p bytes (Layout stamp sections) → IsOfColumn W H c s
came_in W who settings H later then p c bytes stamp sections s n stands was among reads =
    came_for W who settings H later then p c reads.sender bytes s n reads.listed stands was (says_one settings p c reads.sender bytes stamp sections s reads.reads among)

node_column : LifeLaws → (W : World) (who : Who) (settings : Settings) (H : List Happened) (c : ℕ) (s : SectionFields) → IsNode W who settings → IsHistory W H → section_in_force (given_in W H who) (life_of H who) c ≡ Some s
    → IsOfColumn W H c s
node_column L W who settings H c s n is q =
    let come = L.come (given_in W H who) (life_of H who) c s q in
    let a : HasArrived W H who come.stream come.bytes (Layout come.stamp come.sections) come.earlier =
    has_arrived W H who come.later come.stream come.bytes (Layout come.stamp come.sections) come.answer come.earlier is come.stands in
    came_in W who settings H a.later a.then come.stream c come.bytes come.stamp come.sections s n a.stands a.was_sent come.among
    (subst (λ (kind : CoreKind). Says kind come.stream come.bytes (Layout come.stamp come.sections)) n.kind a.says)

-- ---- its blocks

block_was_sent : LifeLaws → BlockLaws → (W : World) (who : Who) (settings : Settings) (H : List Happened) (c i : ℕ) (s : SectionFields) (b : BlockView) → IsNode W who settings → IsHistory W H
    → HasBrought (given_in W H who) (life_of H who) c i s b → WasSent (seen_in W H) i s b.words
block_was_sent L K W who settings H c i s b n is k =
    let cell : IsDataOf (OfNode settings) (life_of H who) k.stream c i s k.cell =
    K.cells (OfNode settings) (given_in W H who) (life_of H who) k.stream c i s k.cell
    (subst (λ (kind : CoreKind). IsLifeOf kind (given_in W H who) (life_of H who)) n.kind (life_is_life W H who is)) k.in_force k.given in
    let d : IsDataOf (OfNode settings) (life_of H who) c c i s k.cell = subst (λ (p : ℕ). IsDataOf (OfNode settings) (life_of H who) p c i s k.cell) cell.words.0 cell in
    let a : HasArrived W H who c d.bytes (Data i d.quality d.payload) d.earlier = has_arrived W H who d.later c d.bytes (Data i d.quality d.payload) d.answer d.earlier is d.stands in
    let of_pmu : IsData (stream_of settings d.reads.sender) d.bytes i d.quality d.payload = d.reads.reads in
    let same : SamePmu W c d.reads.sender = same_pmu W who settings c d.reads.sender n d.reads.listed in
    let column : IsOfColumn W H c s = node_column L W who settings H c s n is k.in_force in
    let one : column.pmu ≡ same.other = same_Some column.pmu same.other (sym column.listed ∙ same.listed) in
    record {
      p = c;
      pmu = same.other;
      listed = same.listed;
      source = sym (column.valid.source ∙ ap (λ (x : Pmu). x.source) one);
      bytes = d.bytes;
      quality = d.quality;
      payload = d.payload;
      among = sent_since W H a.later a.then d.bytes a.stands (a.was_sent (frame_for_one W who settings c d.reads.sender d.bytes of_pmu.fields n d.reads.listed of_pmu.of_stream));
      is_data = subst (λ (x : Stream). IsData x d.bytes i d.quality d.payload) (same_stream W who settings c d.reads.sender n same) of_pmu;
      body = subst (λ (x : BlockView). IsBody s.shape d.payload x.words) k.block d.words.1;
    }

pub node_is_sourced : LifeLaws → BlockLaws → (W : World) (who : Who) (settings : Settings) → IsNode W who settings → IsSourced W who
node_is_sourced L K W who settings n = record {
  columns = λ H c s is q.
      let k : IsOfColumn W H c s = node_column L W who settings H c s n is q in
      record { p = c; pmu = k.pmu; listed = k.listed; bytes = k.bytes; among = k.among; valid = k.valid };
  blocks = λ H c i s b is k. inr (block_was_sent L K W who settings H c i s b n is k);
}
