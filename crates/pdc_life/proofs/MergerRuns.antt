-- Lives are runs: of a node, and of the merger.
use Rattle.pdc_life.proofs.Names.{[], if◌then◌else◌, ◌*◌, ◌++◌, ◌+◌, ◌<◌, ◌==◌, ◌∙◌, ◌∷◌, ◌≡◌, ◌≤◌, AllByRecursion, Answer, ap, AreBytes, AreSound, AreWords, arith, Arrival, Bool, BytesRefused, Candidate, cast_signed, cast_unsigned, cell_under, CellView, cond, cond_both, ConfigFields, CoreKind, CountConflict, Data, drop, Entry, false, false≢true, get_or-drop, Given, given_of, has_count_conflict, HaveColumns, held_layout, HeldLayout, is_in_force, is_older, is_taken, IsConfig, IsInTime, IsLayoutOf, IsLife, IsLifeOf, IsOfSectionInForce, IsSection, IsSound, Known, Layout, layout_answer, length, length-drop, length-take-le, List, LivesAreRuns, map, merged_answer, merged_cells, MergedNode, MergerSettings, nodes_of, None, not, OfMerger, OfNode, OldStamp, Option, payload_of, range_with_len, refl, Refused, Rises, rules, rules_of, Says, section_in_force, SectionFields, slice_get, slice_get_within, Some, Stamp, Stream, stream_from, streams_of, subst, suc, sum, sym, take, Taken, to_be_bytes, true, w16, w32, word_count_of, words_in, WordsOfBytes, zero, ℕ}
use Rattle.std.proofs.lemmas.List.Sums.{sum_by-cons}
use Rattle.pdc_life.proofs.Come.{in_force_whole}
use Rattle.pdc_life.proofs.Frames.{words_cons, words_none}
use Rattle.pdc_life.proofs.InTime.{merger_gives, MergerGives, node_words}
use Rattle.pdc_life.proofs.LifeLaws.{lives_are_ticked}
use Rattle.pdc_life.proofs.Lists.{by_each, heads, May, of_each, same_number}
use Rattle.pdc_life.proofs.NodeRuns.{data_has_tag, data_is_bytes, facts_of, in_time_of, lives_are_sound, node_is_sound, not_either}
use Rattle.pdc_life.proofs.SameCount.{of_held_layout, same_count_same_section}

-- what the law of configurations says
abbrev pub OneConfig : Type 0
OneConfig = (payload : List ℕ) (a b : ConfigFields) → IsConfig payload a → IsConfig payload b → a ≡ b

-- ---- lists of words

pub take_words : (n : ℕ) (ws : List ℕ) → AreWords ws → AreWords (take n ws)
take_words zero ws h = words_none
take_words (suc n) [] h = words_none
take_words (suc n) (w ∷ ws) h = words_cons w (take n ws) (h 0) (take_words n ws (λ i. h (suc i)))

pub drop_words : (n : ℕ) (ws : List ℕ) → AreWords ws → AreWords (drop n ws)
drop_words n ws h i = rw (get_or-drop n ws i 0) (h (n + i))

pub take_count : (n : ℕ) (ws : List ℕ) → n ≤ length ws → length (take n ws) ≡ n
take_count n ws h = length-take-le n ws h

pub drop_count : (n more : ℕ) (ws : List ℕ) → length ws ≡ n + more → length (drop n ws) ≡ more
drop_count n more ws h = omega (arith, h, length-drop n ws)

-- ---- sections of a layout

abbrev pub Parts : Type 0
Parts = List (ℕ × SectionFields)

abbrev columns_above : Parts → List ℕ
columns_above parts = map (λ (part : ℕ × SectionFields). part.0 + 1) parts

abbrev pub total : Parts → ℕ
total [] = 0
total (part ∷ parts) = word_count_of part.1.shape + total parts

pub twice_total : (parts : Parts) → sum (map (λ (part : ℕ × SectionFields). 2 * word_count_of part.1.shape) parts) ≡ 2 * total parts
twice_total [] = refl
twice_total (part ∷ parts) =
    omega (
      arith,
      twice_total parts,
      sum_by-cons (λ (n : ℕ). n) (2 * word_count_of part.1.shape) (map (λ (p : ℕ × SectionFields). 2 * word_count_of p.1.shape) parts),
    )

pub record Facts (g : Given) (parts : Parts) : Type 0 where
  pub columns : HaveColumns g parts
  pub whole : AllByRecursion (λ (part : ℕ × SectionFields). IsSection part.1) parts

each_whole : (parts : Parts) → AllByRecursion IsSection (map (λ (part : ℕ × SectionFields). part.1) parts) → AllByRecursion (λ (part : ℕ × SectionFields). IsSection part.1) parts
each_whole [] a = tt
each_whole (part ∷ parts) a = (a.0, each_whole parts a.1)

each_exists : (settings : MergerSettings) (g : Given) (parts : Parts) → g.columns ≡ length settings.sources.items
    → AllByRecursion (λ (part : ℕ × SectionFields). slice_get settings.sources.items part.0 ≡ Some part.1.source) parts → AllByRecursion (λ (part : ℕ × SectionFields). part.0 < g.columns) parts
each_exists settings g [] n a = tt
each_exists settings g (part ∷ parts) n a =
    (omega (arith, n, slice_get_within settings.sources.items part.0 part.1.source a.0), each_exists settings g parts n a.1)

of_layout : (settings : MergerSettings) (g : Given) (node : MergedNode) (bytes : List ℕ) (stamp : Stamp) (parts : Parts) → g.columns ≡ length settings.sources.items → IsLayoutOf settings node bytes stamp parts → Facts g parts
of_layout settings g node bytes stamp parts n h =
    let whole : AllByRecursion IsSection (h.own ∷ h.others) = subst (λ (ss : List SectionFields). AllByRecursion IsSection ss) h.has.sections h.has.base.has.config.sections in
    record {
      columns = record { rise = h.of_table.rise; exist = each_exists settings g parts n h.of_table.listed };
      whole = each_whole parts (subst (λ (ss : List SectionFields). AllByRecursion IsSection ss) (sym h.of_table.same) whole.1);
    }

held_facts : (settings : MergerSettings) (g : Given) (E : List Entry) (s : ℕ) → g.columns ≡ length settings.sources.items
    → IsLife merged_answer (Says (OfMerger settings)) g E
    → May (λ (h : HeldLayout). Facts g h.sections) (held_layout E s)
held_facts settings g E s n life =
    of_held_layout settings g (λ F h. Facts g h.sections) (λ F e h k. k)
    (λ F r bytes stamp parts answer reads is accepted. of_layout settings g reads.sender bytes stamp parts n reads.reads) E s life

-- ---- the cells of data

abbrev cells_above : List (ℕ × CellView) → List ℕ
cells_above cells = map (λ (part : ℕ × CellView). part.0 + 1) cells

rises_lower : (m n : ℕ) (ns : List ℕ) → m ≤ n → Rises n ns → Rises m ns
rises_lower m n [] h r = tt
rises_lower m n (k ∷ ns) h r = (omega (arith, h, r.0), r.1)

cells_rise : (g : Given) (E : List Entry) (quality n : ℕ) (parts : Parts) (words : List ℕ) → Rises n (columns_above parts) → Rises n (cells_above (merged_cells g E quality parts words))
cells_rise g E quality n [] words r = tt
cells_rise g E quality n (part ∷ parts) words r =
    let cells : List (ℕ × CellView) = merged_cells g E quality parts (drop (word_count_of part.1.shape) words) in
    let rest : Rises (part.0 + 1) (cells_above cells) = cells_rise g E quality (part.0 + 1) parts (drop (word_count_of part.1.shape) words) r.1 in
    cond_both (is_in_force part.1 (section_in_force g E part.0)) ((part.0, cell_under part.1 quality (take (word_count_of part.1.shape) words)) ∷ []) []
    (λ (front : List (ℕ × CellView)). Rises n (cells_above (front ++ cells))) (λ e. (r.0, rest))
    (λ e. rises_lower n (part.0 + 1) (cells_above cells) (omega (arith, r.0)) rest)

pub one_or_none : (P : ℕ × CellView → Type 0) (b : Bool) (part : ℕ × CellView) (rest : List (ℕ × CellView)) → (b ≡ true → P part) → AllByRecursion P rest → AllByRecursion P (cond b (part ∷ []) [] ++ rest)
one_or_none P true part rest h a = (h refl, a)
one_or_none P false part rest h a = a

cells_exist : (g : Given) (E : List Entry) (quality : ℕ) (parts : Parts) (words : List ℕ) → AllByRecursion (λ (part : ℕ × SectionFields). part.0 < g.columns) parts
    → AllByRecursion (λ (part : ℕ × CellView). part.0 < g.columns) (merged_cells g E quality parts words)
cells_exist g E quality [] words a = tt
cells_exist g E quality (part ∷ parts) words a =
    one_or_none (λ (p : ℕ × CellView). p.0 < g.columns) (is_in_force part.1 (section_in_force g E part.0)) (part.0, cell_under part.1 quality (take (word_count_of part.1.shape) words))
    (merged_cells g E quality parts (drop (word_count_of part.1.shape) words)) (λ in_force. a.0)
    (cells_exist g E quality parts (drop (word_count_of part.1.shape) words) a.1)

-- a section with the count in force is the one in force
abbrev pub IsSame : Given → List Entry → ℕ × SectionFields → Type 0
IsSame g E part = (u : SectionFields) → section_in_force g E part.0 ≡ Some u → part.1.count ≡ u.count → part.1 ≡ u

of_section : (g : Given) (E : List Entry) (quality : ℕ) (part : ℕ × SectionFields) (words : List ℕ) (o : Option SectionFields) → section_in_force g E part.0 ≡ o → is_in_force part.1 o ≡ true → IsSame g E part
    → word_count_of part.1.shape ≤ length words → AreWords words → IsOfSectionInForce g E (part.0, cell_under part.1 quality (take (word_count_of part.1.shape) words))
of_section g E quality part words None f h same size fits = absurd (false≢true h)
of_section g E quality part words (Some t) f h same size fits =
    let one : part.1 ≡ t = same t f (same_number part.1.count t.count h) in
    record {
      section = t;
      in_force = f;
      shape = ap (λ (s : SectionFields). s.shape) one;
      count = take_count (word_count_of part.1.shape) words size ∙ ap (λ (s : SectionFields). word_count_of s.shape) one;
      fits = take_words (word_count_of part.1.shape) words fits;
    }

cells_of_sections : (g : Given) (E : List Entry) (quality : ℕ) (parts : Parts) (words : List ℕ) → AllByRecursion (IsSame g E) parts → length words ≡ total parts → AreWords words
    → AllByRecursion (IsOfSectionInForce g E) (merged_cells g E quality parts words)
cells_of_sections g E quality [] words a size fits = tt
cells_of_sections g E quality (part ∷ parts) words a size fits =
    one_or_none (IsOfSectionInForce g E) (is_in_force part.1 (section_in_force g E part.0)) (part.0, cell_under part.1 quality (take (word_count_of part.1.shape) words))
    (merged_cells g E quality parts (drop (word_count_of part.1.shape) words))
    (λ in_force. of_section g E quality part words (section_in_force g E part.0) refl in_force a.0 (omega (arith, size)) fits)
    (cells_of_sections g E quality parts (drop (word_count_of part.1.shape) words) a.1 (drop_count (word_count_of part.1.shape) (total parts) words size)
    (drop_words (word_count_of part.1.shape) words fits))

-- sections with the same bytes are the same
abbrev of_one : SectionFields → ConfigFields
of_one s = record { flags = 0; time_base = 0; sections = s ∷ []; rate = cast_signed w16 1 }

is_config : (s t : SectionFields) → IsSection t → s.bytes ≡ t.bytes → IsConfig (payload_of (of_one s)) (of_one t)
is_config s t h e = record {
  flags = omega arith;
  time_base = omega arith;
  some = omega arith;
  few = omega arith;
  sections = (h, tt);
  rate = search rules;
  spelled = ap (λ (bytes : List ℕ). to_be_bytes w32 0 ++ to_be_bytes w16 1 ++ (bytes ++ []) ++ to_be_bytes w16 (cast_unsigned w16 (cast_signed w16 1))) e;
}

same_section : OneConfig → (s t : SectionFields) → IsSection s → IsSection t → s.bytes ≡ t.bytes → s ≡ t
same_section once s t h k e =
    (heads s t [] [] (ap (λ (c : ConfigFields). c.sections) (once (payload_of (of_one s)) (of_one s) (of_one t) (is_config s s h refl) (is_config s t k e)))).0

two_not_one : (n : ℕ) → n ≡ 2 → n ≡ 1 → ⊥
two_not_one n h k = absurd (omega (arith, h, k))

-- no layout is taken
layout_not : (held : Option HeldLayout) (stamp : Stamp) (conflicts : Bool) → is_taken (layout_answer held stamp conflicts) ≡ false
layout_not None stamp conflicts = not_either conflicts (Refused CountConflict) Candidate refl refl
layout_not (Some held) stamp conflicts =
    not_either (is_older stamp held.stamp) (Refused OldStamp) _ refl
    (not_either (not (is_older held.stamp stamp)) Known _ refl (not_either conflicts (Refused CountConflict) Candidate refl refl))

of_two : (settings : MergerSettings) (g : Given) (E : List Entry) (s : ℕ) (bytes : List ℕ) (arrival : Arrival) → g ≡ given_of (OfMerger settings) g.start g.floor g.counts g.opening → Says (OfMerger settings) s bytes arrival → s < length (streams_of g)
of_two settings g E s bytes arrival given r =
    let below : s < length (nodes_of settings) = slice_get_within (nodes_of settings) s r.sender r.listed in
    let lanes : g.lanes ≡ 2 = ap (λ (k : Given). k.lanes) given in
    let size : length (streams_of g) ≡ 2 = ap (λ n. length (range_with_len 0 (if n == 1 then g.columns else 2))) lanes in
    omega (arith, below, size)

module _ (once : OneConfig) where
  pub all_same : (settings : MergerSettings) (g : Given) (E : List Entry) (s : ℕ) (layout : HeldLayout) → IsLifeOf (OfMerger settings) g E → AreSound g E
      → held_layout E s ≡ Some layout → AllByRecursion (IsSame g E) layout.sections
  all_same settings g E s layout life sound held =
      let facts : Facts g layout.sections =
      subst (May (λ (h : HeldLayout). Facts g h.sections)) held (held_facts settings g E s (ap (λ (k : Given). k.columns) life.given) life.life) in
      by_each (IsSame g E) layout.sections (λ part among u f e. same_section once part.1 u
      (of_each (λ (p : ℕ × SectionFields). IsSection p.1) layout.sections part facts.whole among)
      (subst (May IsSection) f (in_force_whole g E part.0 sound)) (same_count_same_section settings g E s part.0 layout part.1 u life held among f e))

module _ (once : OneConfig) (W : WordsOfBytes) where
  in_time_at : (settings : MergerSettings) (g : Given) (E : List Entry) (s i quality : ℕ) (payload : List ℕ) (answer : Answer) → IsLifeOf (OfMerger settings) g E
      → AreSound g E → i < 4294967296 * g.output.rate → AreBytes payload
      → MergerGives g E s i quality payload answer → answer.outcome ≡ Taken → IsInTime g E s (Data i quality payload) answer
  in_time_at settings g E s i quality payload answer life sound tag bytes k h =
      let sections : Parts = k.layout.sections in
      let words : List ℕ = node_words payload in
      let facts : Facts g sections =
      subst (May (λ (l : HeldLayout). Facts g l.sections)) k.held (held_facts settings g E s (ap (λ (q : Given). q.columns) life.given) life.life) in
      let count : length (words_in payload) ≡ 7 + total sections = W.count payload (7 + total sections) (omega (arith, k.size, twice_total sections)) in
      let left : length words ≡ total sections = drop_count 7 (total sections) (words_in payload) count in
      let fits : AreWords words = drop_words 7 (words_in payload) (W.fit payload bytes) in
      in_time_of g E s i quality payload (merged_cells g E quality sections words) answer k.is h tag
      (record { rise = cells_rise g E quality 0 sections words facts.columns.rise; exist = cells_exist g E quality sections words facts.columns.exist })
      (cells_of_sections g E quality sections words (all_same once settings g E s k.layout life sound k.held) left fits)
      (λ lane. absurd (two_not_one g.lanes (ap (λ (q : Given). q.lanes) life.given) lane))

  sound_at : (settings : MergerSettings) (g : Given) (E : List Entry) (s : ℕ) (bytes : List ℕ) (arrival : Arrival) → IsLifeOf (OfMerger settings) g E → AreSound g E → s < length (streams_of g) → Says (OfMerger settings) s bytes arrival
      → IsSound g E s arrival (merged_answer g E s arrival)
  sound_at settings g E s bytes (BytesRefused refusal) life sound here r = record {
    stream = here;
    taken = λ h. absurd (false≢true (ap is_taken h));
    columns = record { rise = tt; exist = tt };
    sections = tt;
  }
  sound_at settings g E s bytes (Data i quality payload) life sound here r =
      let rate : settings.output.rate ≡ g.output.rate = sym (ap (λ (k : Given). k.output.rate) life.given) in
      let stream : Stream = stream_from settings r.sender in
      record {
        stream = here;
        taken = λ h. in_time_at settings g E s i quality payload (merged_answer g E s (Data i quality payload)) life sound
            (subst (λ n. i < 4294967296 * n) rate (data_has_tag stream bytes i quality payload r.reads)) (data_is_bytes stream bytes i quality payload r.reads)
            (merger_gives g E s i quality payload (held_layout E s) refl h) h;
        columns = record { rise = tt; exist = tt };
        sections = tt;
      }
  sound_at settings g E s bytes (Layout (Some stamp) parts) life sound here r =
      let facts : Facts g parts = of_layout settings g r.sender bytes stamp parts (ap (λ (k : Given). k.columns) life.given) r.reads in
      record {
        stream = here;
        taken = λ h. absurd (false≢true (sym (layout_not (held_layout E s) stamp (has_count_conflict g E parts)) ∙ ap is_taken h));
        columns = facts.columns;
        sections = facts.whole;
      }
  sound_at settings g E s bytes (Layout None parts) life sound here r = absurd r.reads

  -- each step of a life is sound
  step_is_sound : (kind : CoreKind) (g : Given) (E : List Entry) (s : ℕ) (bytes : List ℕ) (arrival : Arrival) → IsLifeOf kind g E → AreSound g E → Says kind s bytes arrival
      → IsSound g E s arrival (rules_of kind g E s arrival)
  step_is_sound (OfNode settings) g E p bytes arrival life known r =
      node_is_sound W settings g E p bytes arrival (ap (λ (h : Given). h.output.rate) life.given) (facts_of settings g p bytes arrival life.given r) r
  step_is_sound (OfMerger settings) g E s bytes arrival life known r =
      sound_at settings g E s bytes arrival life known (of_two settings g E s bytes arrival life.given r) r

  pub lives_are_runs : LivesAreRuns
  lives_are_runs kind g E life = record {
    ticked = lives_are_ticked (rules_of kind) (Says kind) g E life.life;
    sound = lives_are_sound (rules_of kind) (Says kind) g
        (λ F s bytes arrival before known r. step_is_sound kind g F s bytes arrival (record { given = life.given; life = before }) known r) E life.life;
  }
