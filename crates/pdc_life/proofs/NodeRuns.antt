-- What is taken at a node is sound.
use Rattle.pdc_life.proofs.Names.{[], if◌then◌else◌, ◌*◌, ◌+◌, ◌<◌, ◌==◌, ◌∙◌, ◌∷◌, ◌≡◌, ◌≤◌, AllByRecursion, Answer, answer_in_time, ap, AreBytes, AreSound, AreWords, arith, Arrival, Arrive, Bool, BytesRefused, Candidate, cases_lt, cell_under, CellView, cond, count_for, CountConflict, Data, Entry, false, false≢true, Given, given_of, HaveColumns, held_section, inl, inr, is_taken, IsData, IsInstant, IsInTime, IsLife, IsOfSectionInForce, IsSection, IsSound, IsValid, Known, Layout, length, length-range_with_len, List, ltb, nat_eq, node_answer, None, OfNode, Option, Outcome, Pmu, pointwise, range_with_len, refl, Refused, Rules, Says, section_after, section_answer, section_in_force, SectionFields, Settings, slice_get_within, Some, StaleCount, Stream, stream_of, streams_of, subst, sym, Taken, true, word_count_of, words_in, WordsOfBytes, ℕ}
use Rattle.std.proofs.Math.Nat.{mul-le-mul_right}
use Rattle.pdc_row.specs.pdc_frame.Slot.{IsSlot}
use Rattle.pdc_life.proofs.InTime.{node_cells, node_gives, taken_cells}

pub not_either : (b : Bool) (o q : Outcome) → is_taken o ≡ false → is_taken q ≡ false → is_taken (cond b o q) ≡ false
not_either true o q h k = h
not_either false o q h k = k

-- no configuration is taken
after_not : (held : Option SectionFields) (s : SectionFields) → is_taken (section_after held s) ≡ false
after_not None s = refl
after_not (Some held) s =
    not_either (ltb s.count held.count) (Refused StaleCount) _ refl
    (not_either (ltb held.count s.count) Candidate _ refl (not_either (pointwise nat_eq held.bytes s.bytes) Known (Refused CountConflict) refl refl))

section_not : (opening : ℕ) (held : Option SectionFields) (s : SectionFields) → is_taken (section_answer opening held s) ≡ false
section_not opening held s = not_either (ltb s.count opening) (Refused StaleCount) (section_after held s) refl (after_not held s)

-- a slot lies in its second, and the instant of a tag in a second that SOC can name
slot_below : (frac time_base rate k : ℕ) → IsSlot frac time_base rate k → k < rate
slot_below frac time_base rate k h = elim (cases_lt k rate) [
  | inl below ↦ below
  | inr past ↦
      let far : rate * time_base ≤ k * time_base = mul-le-mul_right {m = rate} {n = k} time_base past in
      let room : (frac + 1) * rate ≤ time_base * rate = mul-le-mul_right {m = frac + 1} {n = time_base} rate (omega (arith, h.in_second)) in
      absurd (omega (arith, h.within_count, far, room))
]

instant_below : (soc frac time_base rate i : ℕ) → soc < 4294967296 → IsInstant soc frac time_base rate i → i < 4294967296 * rate
instant_below soc frac time_base rate i h t =
    let slot : t.slot < rate = slot_below frac time_base rate t.slot t.is_slot in
    let seconds : (soc + 1) * rate ≤ 4294967296 * rate = mul-le-mul_right {m = soc + 1} {n = 4294967296} rate (omega (arith, h)) in
    omega (arith, t.is_instant, slot, seconds)

pub data_has_tag : (stream : Stream) (bytes : List ℕ) (i quality : ℕ) (payload : List ℕ) → IsData stream bytes i quality payload → i < 4294967296 * stream.rate
data_has_tag stream bytes i quality payload h =
    instant_below h.fields.soc h.fields.frac stream.time_base stream.rate i (omega (arith, h.of_stream.frame.fits.soc)) h.tag

pub data_is_bytes : (stream : Stream) (bytes : List ℕ) (i quality : ℕ) (payload : List ℕ) → IsData stream bytes i quality payload → AreBytes payload
data_is_bytes stream bytes i quality payload h = subst AreBytes h.same_payload h.of_stream.frame.fits.bytes

-- data that is taken is in time, where its cells are of the sections in force
pub in_time_of : (g : Given) (E : List Entry) (s i quality : ℕ) (payload : List ℕ) (cells : List (ℕ × CellView)) (answer : Answer)
    → answer ≡ answer_in_time g E s i cells → answer.outcome ≡ Taken
    → i < 4294967296 * g.output.rate → HaveColumns g cells → AllByRecursion (IsOfSectionInForce g E) cells
    → (g.lanes ≡ 1 → AllByRecursion (λ (part : ℕ × CellView). part.0 ≡ s) cells)
    → IsInTime g E s (Data i quality payload) answer
in_time_of g E s i quality payload cells answer is taken tag columns sections own =
    let e : cells ≡ answer.cells = sym (taken_cells g E s i cells answer is taken) in
    record {
      instant = i;
      quality = quality;
      payload = payload;
      said = refl;
      in_time = is ∙ ap (λ (cs : List (ℕ × CellView)). answer_in_time g E s i cs) e;
      tag = tag;
      columns = subst (λ (cs : List (ℕ × CellView)). HaveColumns g cs) e columns;
      sections = subst (λ (cs : List (ℕ × CellView)). AllByRecursion (IsOfSectionInForce g E) cs) e sections;
      own = λ lane. subst (λ (cs : List (ℕ × CellView)). AllByRecursion (λ (part : ℕ × CellView). part.0 ≡ s) cs) e (own lane);
    }

-- what each step is answered is sound, so a life is
pub lives_are_sound : (rules : Rules) (Says : ℕ → List ℕ → Arrival → Type 0) (g : Given)
    → ((E : List Entry) (s : ℕ) (bytes : List ℕ) (arrival : Arrival) → IsLife rules Says g E → AreSound g E → Says s bytes arrival
    → IsSound g E s arrival (rules g E s arrival))
    → (E : List Entry) → IsLife rules Says g E → AreSound g E
lives_are_sound rules Says g sound [] life = tt
lives_are_sound rules Says g sound (Arrive s bytes arrival answer ∷ E) life =
    let before : AreSound g E = lives_are_sound rules Says g sound E life.2 in
    (subst (λ (a : Answer). IsSound g E s arrival a) (sym life.1) (sound E s bytes arrival life.2 before life.0), before)
lives_are_sound rules Says g sound (e ∷ E) life = lives_are_sound rules Says g sound E life.1

of_valid : (settings : Settings) (pmu : Pmu) (bytes : List ℕ) (s : SectionFields) → IsValid settings pmu bytes s → IsSection s
of_valid settings pmu bytes s h =
    (subst (λ (ss : List SectionFields). AllByRecursion IsSection ss) h.one h.base.has.config.sections).0

own_column : {A : Type 0} (g : Given) (p : ℕ) (a : A) → p < g.columns → HaveColumns g ((p, a) ∷ [])
own_column g p a h = record { rise = (omega arith, tt); exist = (h, tt) }

pub facts_of : (settings : Settings) (g : Given) (p : ℕ) (bytes : List ℕ) (arrival : Arrival) → g ≡ given_of (OfNode settings) g.start g.floor g.counts g.opening → Says (OfNode settings) p bytes arrival
    → (p < g.columns) × (p < length (streams_of g))
facts_of settings g p bytes arrival given r =
    let number : g.columns ≡ length settings.pmus.items = ap (λ (h : Given). h.columns) given in
    let here : p < g.columns = omega (arith, number, slice_get_within settings.pmus.items p r.sender r.listed) in
    let one : g.lanes ≡ 1 = ap (λ (h : Given). h.lanes) given in
    let size : length (streams_of g) ≡ g.columns =
    ap (λ n. length (range_with_len 0 (if n == 1 then g.columns else 2))) one ∙ length-range_with_len 0 g.columns in
    (here, omega (arith, here, size))

-- ---- what follows from the law of words

module _ (W : WordsOfBytes) where
  pub node_is_sound : (settings : Settings) (g : Given) (E : List Entry) (p : ℕ) (bytes : List ℕ) (arrival : Arrival) → g.output.rate ≡ settings.output.rate
      → (p < g.columns) × (p < length (streams_of g)) → Says (OfNode settings) p bytes arrival → IsSound g E p arrival (node_answer g E p arrival)
  node_is_sound settings g E p bytes (BytesRefused refusal) rate facts r = record {
    stream = facts.1;
    taken = λ h. absurd (false≢true (ap is_taken h));
    columns = record { rise = tt; exist = tt };
    sections = tt;
  }
  node_is_sound settings g E p bytes (Data i quality payload) rate facts r =
      let tag : i < 4294967296 * settings.output.rate = data_has_tag (stream_of settings r.sender) bytes i quality payload r.reads in
      record {
        stream = facts.1;
        taken = λ h.
            let k = node_gives g E p i quality payload (section_in_force g E p) refl h in
            let fits : AreWords (words_in payload) = W.fit payload (data_is_bytes (stream_of settings r.sender) bytes i quality payload r.reads) in
            let count : length (words_in payload) ≡ word_count_of k.section.shape = W.count payload (word_count_of k.section.shape) k.size in
            in_time_of g E p i quality payload (node_cells p quality payload k.section) (node_answer g E p (Data i quality payload)) k.is h
            (subst (λ n. i < 4294967296 * n) (sym rate) tag) (own_column g p (cell_under k.section quality (words_in payload)) facts.0)
            (record { section = k.section; in_force = k.in_force; shape = refl; count = count; fits = fits }, tt) (λ lane. (refl, tt));
        columns = record { rise = tt; exist = tt };
        sections = tt;
      }
  node_is_sound settings g E p bytes (Layout None ((c, s) ∷ [])) rate facts r = record {
    stream = facts.1;
    taken = λ h. absurd (false≢true (sym (section_not (count_for p g.counts) (held_section g E p) s) ∙ ap is_taken h));
    columns = own_column g c s (subst (λ n. n < g.columns) (sym r.reads.0) facts.0);
    sections = (of_valid settings r.sender bytes s r.reads.1, tt);
  }
  node_is_sound settings g E p bytes (Layout stamp sections) rate facts r = absurd r.reads
