-- Bytes that arrive for a PMU say one thing.
use Rattle.pdc_life.proofs.Names.{[], ◌∙◌, ◌∷◌, ◌≡◌, ap, arith, Arrival, BadTag, BytesRefused, cast_unsigned, ConfigFields, Cut, Data, FloatFormat, inl, inr, Layout, length, List, NoConfiguration, NoFrame, None, Pmu, Reads, refl, SectionFields, Settings, stream_of, sym, TooMany, w16, WrongId, WrongKind, WrongRate, WrongSource, WrongTimeBase, ℕ}
use Rattle.pdc_life.proofs.Lists.{heads}
use Rattle.pdc_life.proofs.Stages.{Just, of_broken, of_config, of_data, of_foreign, of_no_instant, of_other_kind, ReadOnce, same_just, same_staged, same_unless, SayOne, Staged, Unless}

-- what a configuration says: it has one section, and the TIME_BASE, the rate and the source of the settings
abbrev InConfig : ℕ → Settings → Pmu → ConfigFields → Arrival → Type 0
InConfig p settings pmu c a =
    Unless (λ (s : SectionFields). c.sections ≡ s ∷ []) (BytesRefused (NoConfiguration TooMany))
    (λ s. Unless (λ (u : Unit {0}). c.time_base ≡ pmu.time_base) (BytesRefused WrongTimeBase)
    (λ u. Unless (λ (v : Unit {0}). cast_unsigned w16 c.rate ≡ settings.output.rate) (BytesRefused WrongRate)
    (λ v. Unless (λ (w : Unit {0}). s.source ≡ pmu.source) (BytesRefused WrongSource) (Just (λ w. Layout None ((p, s) ∷ [])))))) a

same_in_config : (p : ℕ) (settings : Settings) (pmu : Pmu) → SayOne (InConfig p settings pmu)
same_in_config p settings pmu c a b h k =
    same_unless (λ (s : SectionFields). c.sections ≡ s ∷ []) _ _ (λ s t e f. (heads s t [] [] (sym e ∙ f)).0)
    (λ s. same_unless (λ (u : Unit {0}). c.time_base ≡ pmu.time_base) _ _ (λ x y h k. refl)
    (λ u. same_unless (λ (v : Unit {0}). cast_unsigned w16 c.rate ≡ settings.output.rate) _ _ (λ x y h k. refl)
    (λ v. same_unless (λ (w : Unit {0}). s.source ≡ pmu.source) _ (Just (λ w. Layout None ((p, s) ∷ []))) (λ x y h k. refl)
    (same_just (λ w. Layout None ((p, s) ∷ [])))))) a b h k

one_section : (sections : List SectionFields) → length sections ≡ 1 → (s : SectionFields) × (sections ≡ s ∷ [])
one_section [] h = absurd (omega (arith, h))
one_section (s ∷ []) h = (s, refl)
one_section (s ∷ t ∷ sections) h = absurd (omega (arith, h))

staged : (p : ℕ) (settings : Settings) (pmu : Pmu) (bytes : List ℕ) (a : Arrival) → Reads settings p pmu bytes a
    → Staged (stream_of settings pmu) (InConfig p settings pmu) bytes a
staged p settings pmu bytes (BytesRefused (NoFrame fault)) h = inl (fault, h, refl)
staged p settings pmu bytes (BytesRefused WrongId) h = of_foreign (stream_of settings pmu) (InConfig p settings pmu) bytes h
staged p settings pmu bytes (BytesRefused (NoConfiguration WrongKind)) h = of_other_kind (stream_of settings pmu) (InConfig p settings pmu) bytes h
staged p settings pmu bytes (BytesRefused (NoConfiguration Cut)) h = of_broken (stream_of settings pmu) (InConfig p settings pmu) bytes Cut h
staged p settings pmu bytes (BytesRefused (NoConfiguration FloatFormat)) h = of_broken (stream_of settings pmu) (InConfig p settings pmu) bytes FloatFormat h
staged p settings pmu bytes (BytesRefused (NoConfiguration TooMany)) (inl h) = of_broken (stream_of settings pmu) (InConfig p settings pmu) bytes TooMany h
staged p settings pmu bytes (BytesRefused (NoConfiguration TooMany)) (inr h) =
    of_config (stream_of settings pmu) (InConfig p settings pmu) bytes h.config _ h.has (inl (tt, (λ s e. h.number (ap length e)), refl))
staged p settings pmu bytes (BytesRefused WrongTimeBase) h =
    let one = one_section h.0.sections h.1 in
    of_config (stream_of settings pmu) (InConfig p settings pmu) bytes h.0 _ h.2.has (inr (one.0, one.1, inl (tt, (λ u. h.2.differs), refl)))
staged p settings pmu bytes (BytesRefused WrongRate) h =
    let one = one_section h.0.sections h.1 in
    of_config (stream_of settings pmu) (InConfig p settings pmu) bytes h.0 _ h.2.has
    (inr (one.0, one.1, inr (tt, h.2.time_base, inl (tt, (λ v. h.2.differs), refl))))
staged p settings pmu bytes (BytesRefused WrongSource) h =
    of_config (stream_of settings pmu) (InConfig p settings pmu) bytes h.config _ h.base.has
    (inr (h.section, h.one, inr (tt, h.base.time_base, inr (tt, h.base.rate, inl (tt, (λ w. h.differs), refl)))))
staged p settings pmu bytes (BytesRefused BadTag) h = of_no_instant (stream_of settings pmu) (InConfig p settings pmu) bytes h
staged p settings pmu bytes (BytesRefused refusal) h = absurd h
staged p settings pmu bytes (Data i quality payload) h = of_data (stream_of settings pmu) (InConfig p settings pmu) bytes i quality payload h
staged p settings pmu bytes (Layout None ((c, s) ∷ [])) h =
    of_config (stream_of settings pmu) (InConfig p settings pmu) bytes h.1.config _ h.1.base.has
    (inr (s, h.1.one, inr (tt, h.1.base.time_base, inr (tt, h.1.base.rate, inr (tt, h.1.source, (λ j. Layout None ((h.0 j, s) ∷ [])))))))
staged p settings pmu bytes (Layout stamp sections) h = absurd h

pub node_reads_once : ReadOnce → (settings : Settings) (p : ℕ) (pmu : Pmu) (bytes : List ℕ) (a b : Arrival) → Reads settings p pmu bytes a → Reads settings p pmu bytes b → a ≡ b
node_reads_once laws settings p pmu bytes a b h k =
    same_staged laws (stream_of settings pmu) (InConfig p settings pmu) (same_in_config p settings pmu) bytes a b (staged p settings pmu bytes a h)
    (staged p settings pmu bytes b k)
