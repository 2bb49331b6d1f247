-- Bytes say one thing: those that arrive from a node at the merger, and so those of a PMU.
use Rattle.pdc_life.proofs.Names.{[], ◌==◌, ◌||◌, ◌∙◌, ◌∷◌, ◌≡◌, AllByRecursion, ap, AreOfTable, Arrival, BadOwnBlock, BadTag, Bool, BytesRefused, cast_unsigned, ConfigFields, Data, eqb, false≢true, HasSections, Hz50, Hz60, inl, inr, IsOwn, Layout, List, list_any, map, MergedNode, MergerSettings, NoConfiguration, NoFrame, None, none-some, not, OfMerger, OfNode, own_bytes, OwnSectionsTellStamps, ReadsFrom, ReadsOnce, refl, rules, same_Some, SectionFields, slice_get, Some, Stamp, stream_from, subst, suc, sym, true, UnknownSource, w16, WrongId, WrongKind, WrongRate, WrongTimeBase, zero, ℕ}
use Rattle.pdc_row.specs.declared.output.Nominal.{Nominal}
use Rattle.pdc_life.specs.Distinct.{are_distinct}
use Rattle.pdc_life.proofs.Lists.{both, by_cases, heads}
use Rattle.pdc_life.proofs.OneReading.{node_reads_once}
use Rattle.pdc_life.proofs.Stages.{Just, of_broken, of_config, of_data, of_foreign, of_no_instant, of_other_kind, ReadOnce, same_just, same_staged, same_unless, SayOne, Staged, Unless}

-- ---- the table tells the column of a source

there : (ids : List ℕ) (n x : ℕ) → slice_get ids n ≡ Some x → list_any (λ other. other == x) ids ≡ true
there [] n x h = absurd (none-some x h)
there (id ∷ ids) zero x h = let same : id ≡ x = same_Some id x h in search rules
there (id ∷ ids) (suc n) x h = by_cases (λ (b : Bool). (b || list_any (λ other. other == x) ids) ≡ true) (eqb id x) (λ e. refl) (λ e. there ids n x h)

same_place : (ids : List ℕ) (m n x : ℕ) → are_distinct ids ≡ true → slice_get ids m ≡ Some x → slice_get ids n ≡ Some x → m ≡ n
same_place [] m n x d h k = absurd (none-some x h)
same_place (id ∷ ids) zero zero x d h k = refl
same_place (id ∷ ids) zero (suc n) x d h k = absurd (false≢true (sym (ap not (there ids n id (k ∙ sym h))) ∙ (both _ (are_distinct ids) d).0))
same_place (id ∷ ids) (suc m) zero x d h k = absurd (false≢true (sym (ap not (there ids m id (h ∙ sym k))) ∙ (both _ (are_distinct ids) d).0))
same_place (id ∷ ids) (suc m) (suc n) x d h k = ap suc (same_place ids m n x (both _ (are_distinct ids) d).1 h k)

abbrev Parts : Type 0
Parts = List (ℕ × SectionFields)

abbrev Listed : List ℕ → Parts → Type 0
Listed sources parts = AllByRecursion (λ (part : ℕ × SectionFields). slice_get sources part.0 ≡ Some part.1.source) parts

abbrev sections_in : Parts → List SectionFields
sections_in parts = map (λ (part : ℕ × SectionFields). part.1) parts

none_is : (s : SectionFields) (ss : List SectionFields) → [] ≡ s ∷ ss → ⊥
none_is s ss e = cc

same_parts : (sources : List ℕ) (parts more : Parts) → are_distinct sources ≡ true → Listed sources parts → Listed sources more → sections_in parts ≡ sections_in more → parts ≡ more
same_parts sources [] [] d a b e = refl
same_parts sources [] (q ∷ more) d a b e = absurd (none_is q.1 (sections_in more) e)
same_parts sources (p ∷ parts) [] d a b e = absurd (none_is p.1 (sections_in parts) (sym e))
same_parts sources (p ∷ parts) (q ∷ more) d a b e =
    let h = heads p.1 q.1 (sections_in parts) (sections_in more) e in
    let column : p.0 ≡ q.0 = same_place sources p.0 q.0 q.1.source d (a.0 ∙ ap (λ (s : SectionFields). Some s.source) h.0) b.0 in
    let rest : parts ≡ more = same_parts sources parts more d a.1 b.1 h.1 in
    λ i. (column i, h.0 i) ∷ rest i

same_table : (sources : List ℕ) (sections : List SectionFields) (parts more : Parts) → are_distinct sources ≡ true → AreOfTable sources sections parts → AreOfTable sources sections more → parts ≡ more
same_table sources sections parts more d h k = same_parts sources parts more d h.listed k.listed (h.same ∙ sym k.same)

-- ---- what a configuration says

-- The stages behind it: the TIME_BASE and the rate of the stream, the own section with a stamp, and the sections of the table.
abbrev InOwn : MergerSettings → MergedNode → List SectionFields → Arrival → Type 0
InOwn settings node [] a = ⊥
InOwn settings node (own ∷ others) a =
    Unless (IsOwn node.id.value own.bytes) (BytesRefused BadOwnBlock)
    (λ stamp. Unless (AreOfTable settings.sources.items others) (BytesRefused UnknownSource) (Just (λ parts. Layout (Some stamp) parts))) a

abbrev InConfig : MergerSettings → MergedNode → ConfigFields → Arrival → Type 0
InConfig settings node c a =
    Unless (λ (u : Unit {0}). c.time_base ≡ node.time_base) (BytesRefused WrongTimeBase)
    (λ u. Unless (λ (v : Unit {0}). cast_unsigned w16 c.rate ≡ settings.output.rate) (BytesRefused WrongRate) (λ v. InOwn settings node c.sections)) a

module _ (laws : ReadOnce) (tell : OwnSectionsTellStamps) where
  one_stamp : (a b : Stamp) → (a.start ≡ b.start) × (a.change ≡ b.change) → a ≡ b
  one_stamp a b h = λ i. record { start = h.0 i; change = h.1 i }

  spelled_by : (id : ℕ) (bytes : List ℕ) (a : Stamp) → IsOwn id bytes a → (n : Nominal) × (bytes ≡ own_bytes id n a.start a.change)
  spelled_by id bytes a h = elim h.spelled [
    | inl e ↦ (Hz50, e)
    | inr e ↦ (Hz60, e)
  ]

  same_stamp : (id : ℕ) (bytes : List ℕ) (a b : Stamp) → IsOwn id bytes a → IsOwn id bytes b → a ≡ b
  same_stamp id bytes a b h k =
      let one = spelled_by id bytes a h in
      let two = spelled_by id bytes b k in
      one_stamp a b (tell id id one.0 two.0 a.start a.change b.start b.change h.start_fits h.change_fits k.start_fits k.change_fits (sym one.1 ∙ two.1))

  same_in_own : (settings : MergerSettings) (node : MergedNode) → SayOne (InOwn settings node)
  same_in_own settings node [] a b h k = absurd h
  same_in_own settings node (own ∷ others) a b h k =
      let distinct : are_distinct settings.sources.items ≡ true = (both (not (list_any (λ other. other == settings.output.id.value) settings.sources.items)) (are_distinct settings.sources.items) settings.own).1 in
      same_unless (IsOwn node.id.value own.bytes) _ _ (same_stamp node.id.value own.bytes)
      (λ stamp. same_unless (AreOfTable settings.sources.items others) _ (Just (λ parts. Layout (Some stamp) parts))
      (λ p q h k. same_table settings.sources.items others p q distinct h k)
      (same_just (λ parts. Layout (Some stamp) parts))) a b h k

  same_in_config : (settings : MergerSettings) (node : MergedNode) → SayOne (InConfig settings node)
  same_in_config settings node c a b h k =
      same_unless (λ (u : Unit {0}). c.time_base ≡ node.time_base) _ _ (λ x y h k. refl)
      (λ u. same_unless (λ (v : Unit {0}). cast_unsigned w16 c.rate ≡ settings.output.rate) _ _ (λ x y h k. refl)
      (λ v. same_in_own settings node c.sections)) a b h k

  -- ---- what is read went through the stages

  with_sections : (settings : MergerSettings) (node : MergedNode) (bytes : List ℕ) (own : SectionFields) (others : List SectionFields) (a : Arrival)
      → HasSections settings node bytes own others → InOwn settings node (own ∷ others) a
      → Staged (stream_from settings node) (InConfig settings node) bytes a
  with_sections settings node bytes own others a h k =
      of_config (stream_from settings node) (InConfig settings node) bytes h.config a h.base.has
      (inr (tt, h.base.time_base, inr (tt, h.base.rate, subst (λ (ss : List SectionFields). InOwn settings node ss a) (sym h.sections) k)))

  staged : (settings : MergerSettings) (node : MergedNode) (bytes : List ℕ) (a : Arrival) → ReadsFrom settings node bytes a
      → Staged (stream_from settings node) (InConfig settings node) bytes a
  staged settings node bytes (BytesRefused (NoFrame fault)) h = inl (fault, h, refl)
  staged settings node bytes (BytesRefused WrongId) h = of_foreign (stream_from settings node) (InConfig settings node) bytes h
  staged settings node bytes (BytesRefused (NoConfiguration WrongKind)) h = of_other_kind (stream_from settings node) (InConfig settings node) bytes h
  staged settings node bytes (BytesRefused (NoConfiguration fault)) h = of_broken (stream_from settings node) (InConfig settings node) bytes fault h
  staged settings node bytes (BytesRefused WrongTimeBase) h =
      of_config (stream_from settings node) (InConfig settings node) bytes h.0 _ h.1.has (inl (tt, (λ u. h.1.differs), refl))
  staged settings node bytes (BytesRefused WrongRate) h =
      of_config (stream_from settings node) (InConfig settings node) bytes h.0 _ h.1.has (inr (tt, h.1.time_base, inl (tt, (λ v. h.1.differs), refl)))
  staged settings node bytes (BytesRefused BadOwnBlock) h = with_sections settings node bytes h.own h.others _ h.has (inl (tt, h.none, refl))
  staged settings node bytes (BytesRefused UnknownSource) h =
      with_sections settings node bytes h.own h.others _ h.has (inr (h.stamp, h.itself, inl (tt, h.none, refl)))
  staged settings node bytes (BytesRefused BadTag) h = of_no_instant (stream_from settings node) (InConfig settings node) bytes h
  staged settings node bytes (BytesRefused refusal) h = absurd h
  staged settings node bytes (Data i quality payload) h = of_data (stream_from settings node) (InConfig settings node) bytes i quality payload h
  staged settings node bytes (Layout (Some stamp) parts) h =
      with_sections settings node bytes h.own h.others _ h.has (inr (stamp, h.itself, inr (parts, h.of_table, refl)))
  staged settings node bytes (Layout None parts) h = absurd h

  pub reads_once : ReadsOnce
  reads_once (OfNode settings) p pmu bytes a b h k = node_reads_once laws settings p pmu bytes a b h k
  reads_once (OfMerger settings) s node bytes a b h k =
      same_staged laws (stream_from settings node) (InConfig settings node) (same_in_config settings node) bytes a b (staged settings node bytes a h)
      (staged settings node bytes b k)
