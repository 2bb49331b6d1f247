-- What is read of a PMU's frames is one: one frame an instant, one section a count.
use Rattle.std.proofs.Common.{◌≡◌, ℕ, ◌+◌, ◌<◌, ◌≤◌, List, [], ◌∷◌, Some, get_or, inl, inr, sym, ap, ◌∙◌, subst, arith, refl}
use Rattle.pdc_frame.specs.Frame.{Fields, IsFrame, spelling_of}
use Rattle.pdc_frame.specs.declared.frame.Kind.TheVariants.{Cfg2, DataFrame, HeaderFrame}
use Rattle.pdc_cfg.specs.Config.{ConfigFields, IsConfig, payload_of}
use Rattle.pdc_cfg.specs.Section.{SectionFields}
use Rattle.pdc_frame.specs.Instant.{instant_of}
use Rattle.pdc_frame.specs.Tag.{tag_of}
use Rattle.pdc_simulation.specs.Pmu.{PmuView, new_pmu, next_config}
use Rattle.pdc_simulation.specs.Renamed.{renamed}
use Rattle.pdc_simulation.specs.PmuSent.{AreBelow, AreFalling, HasSent, IsOneOf, OneFrameAnInstant, OneSectionACount, Sent, HeaderSent, ConfigSent, DataSent, after, fields_sent, instants_of}
use Rattle.pdc_simulation.proofs.Rising.{instants_rise}

-- bytes are one frame at most, and a payload one configuration
abbrev pub FramesAreOne : Type 0
FramesAreOne = (bytes : List ℕ) (f g : Fields) → IsFrame bytes f → IsFrame bytes g → f ≡ g

abbrev pub ConfigsAreOne : Type 0
ConfigsAreOne = (payload : List ℕ) (c d : ConfigFields) → IsConfig payload c → IsConfig payload d → c ≡ d

-- the instant of an instant's tag is the instant
abbrev pub TagsComeBack : Type 0
TagsComeBack = (i time_base rate : ℕ) → 1 ≤ rate → rate ≤ time_base → instant_of (tag_of i time_base rate).0 (tag_of i time_base rate).1 time_base rate ≡ Some i

-- what a PMU is after these frames is one
determined : (p : PmuView) (frames : List Sent) (q r : PmuView) → HasSent p frames q → HasSent p frames r → q ≡ r
determined p [] q r h k = sym h ∙ k
determined p (frame ∷ frames) q r h k = h.2.left ∙ ap (λ (v : PmuView). after v frame) (determined p frames h.0 k.0 h.1 k.1) ∙ sym k.2.left

newest : (p : PmuView) (frame : Sent) (frames : List Sent) (q : PmuView) (bytes : List ℕ) (h : HasSent p (frame ∷ frames) q) (r : PmuView) → HasSent p frames r
    → bytes ≡ spelling_of (fields_sent r frame) → bytes ≡ spelling_of (fields_sent h.0 frame)
newest p frame frames q bytes h r k e = e ∙ ap (λ (v : PmuView). spelling_of (fields_sent v frame)) (determined p frames r h.0 k h.1)

read_back : FramesAreOne → (r : PmuView) (frame : Sent) (bytes : List ℕ) (f : Fields) → bytes ≡ spelling_of (fields_sent r frame) → IsFrame (spelling_of (fields_sent r frame)) (fields_sent r frame)
    → IsFrame bytes f → f ≡ fields_sent r frame
read_back one r frame bytes f e is h = one bytes f (fields_sent r frame) h (subst (λ (xs : List ℕ). IsFrame xs (fields_sent r frame)) (sym e) is)

-- rate and TIME_BASE stay
rate_stays : (r : PmuView) (frame : Sent) → ((after r frame).rate ≡ r.rate) × ((after r frame).time_base ≡ r.time_base)
rate_stays r (HeaderSent soc text) = (refl, refl)
rate_stays r (ConfigSent soc section) = (refl, refl)
rate_stays r (DataSent instant words) = (refl, refl)

base_stays : (p : PmuView) (frames : List Sent) (q : PmuView) → HasSent p frames q → (q.rate ≡ p.rate) × (q.time_base ≡ p.time_base)
base_stays p [] q h = (ap (λ (r : PmuView). r.rate) (sym h), ap (λ (r : PmuView). r.time_base) (sym h))
base_stays p (frame ∷ frames) q h =
    let rest = base_stays p frames h.0 h.1 in
    let one = rate_stays h.0 frame in
    (ap (λ (r : PmuView). r.rate) h.2.left ∙ one.0 ∙ rest.0, ap (λ (r : PmuView). r.time_base) h.2.left ∙ one.1 ∙ rest.1)

-- the frame is a data frame of this instant
abbrev IsOfInstant : Sent → ℕ → Type 0
IsOfInstant (DataSent instant words) j = instant ≡ j
IsOfInstant frame j = ⊥

same_instant : (i j : ℕ) → Some i ≡ Some j → i ≡ j
same_instant i j e = cc

is_of_instant : TagsComeBack → (r : PmuView) (frame : Sent) (f : Fields) (j : ℕ) → 1 ≤ r.rate → r.rate ≤ r.time_base → f ≡ fields_sent r frame → f.kind ≡ DataFrame
    → instant_of f.soc f.frac r.time_base r.rate ≡ Some j → IsOfInstant frame j
is_of_instant back r (HeaderSent soc text) f j low base e kind at = let same : HeaderFrame ≡ DataFrame = sym (ap (λ (g : Fields). g.kind) e) ∙ kind in absurd cc
is_of_instant back r (ConfigSent soc section) f j low base e kind at = let same : Cfg2 ≡ DataFrame = sym (ap (λ (g : Fields). g.kind) e) ∙ kind in absurd cc
is_of_instant back r (DataSent i words) f j low base e kind at =
    same_instant i j (sym (back i r.time_base r.rate low base) ∙ sym (ap (λ (g : Fields). instant_of g.soc g.frac r.time_base r.rate) e) ∙ at)

-- What is read of the newest frame, where it is a data frame.
record IsRead (p : PmuView) (bytes : List ℕ) (f : Fields) (j : ℕ) : Type 0 where
  is_frame : IsFrame bytes f
  kind : f.kind ≡ DataFrame
  instant : instant_of f.soc f.frac p.time_base p.rate ≡ Some j

newest_instant : FramesAreOne → TagsComeBack → (p : PmuView) (frame : Sent) (frames : List Sent) (q : PmuView) (h : HasSent p (frame ∷ frames) q) (bytes : List ℕ) (f : Fields) (j : ℕ)
    → 1 ≤ p.rate → p.rate ≤ p.time_base → bytes ≡ spelling_of (fields_sent h.0 frame) → IsRead p bytes f j → IsOfInstant frame j
newest_instant one back p frame frames q h bytes f j low base e is =
    let stays = base_stays p frames h.0 h.1 in
    is_of_instant back h.0 frame f j (omega (arith, low, stays.0)) (omega (arith, base, stays.0, stays.1)) (read_back one h.0 frame bytes f e h.2.is_frame is.is_frame) is.kind
    (ap (λ n. instant_of f.soc f.frac n h.0.rate) stays.1 ∙ ap (λ n. instant_of f.soc f.frac p.time_base n) stays.0 ∙ is.instant)

below_newest : (frame : Sent) (frames : List Sent) (j n : ℕ) → IsOfInstant frame j → AreBelow n (instants_of (frame ∷ frames)) → j < n
below_newest (HeaderSent soc text) frames j n e b = absurd e
below_newest (ConfigSent soc section) frames j n e b = absurd e
below_newest (DataSent i words) frames j n e b = omega (arith, e, b.0)

below_older : (frame : Sent) (frames : List Sent) (n : ℕ) → AreBelow n (instants_of (frame ∷ frames)) → AreBelow n (instants_of frames)
below_older (HeaderSent soc text) frames n b = b
below_older (ConfigSent soc section) frames n b = b
below_older (DataSent i words) frames n b = b.1

falling_older : (frame : Sent) (frames : List Sent) → AreFalling (instants_of (frame ∷ frames)) → AreFalling (instants_of frames)
falling_older (HeaderSent soc text) frames b = b
falling_older (ConfigSent soc section) frames b = b
falling_older (DataSent i words) frames b = b.1

-- the instant of a frame among these lies below what all lie below
is_below : FramesAreOne → TagsComeBack → (p : PmuView) (frames : List Sent) (q : PmuView) → HasSent p frames q → (bytes : List ℕ) (f : Fields) (j n : ℕ) → 1 ≤ p.rate → p.rate ≤ p.time_base
    → IsOneOf bytes p frames → IsRead p bytes f j → AreBelow n (instants_of frames) → j < n
is_below one back p [] q h bytes f j n low base among is below = absurd among
is_below one back p (frame ∷ frames) q h bytes f j n low base (inl a) is below =
    below_newest frame frames j n (newest_instant one back p frame frames q h bytes f j low base (newest p frame frames q bytes h a.0 a.1 a.2) is) below
is_below one back p (frame ∷ frames) q h bytes f j n low base (inr a) is below = is_below one back p frames h.0 h.1 bytes f j n low base a is (below_older frame frames n below)

-- a frame that is newer than another has another instant
apart : FramesAreOne → TagsComeBack → (p : PmuView) (frame : Sent) (frames : List Sent) (r : PmuView) → HasSent p frames r → (bytes : List ℕ) (f : Fields) (j : ℕ) → 1 ≤ p.rate → p.rate ≤ p.time_base
    → IsOfInstant frame j → IsOneOf bytes p frames → IsRead p bytes f j → AreFalling (instants_of (frame ∷ frames)) → ⊥
apart one back p (HeaderSent soc text) frames r h bytes f j low base e among is falling = e
apart one back p (ConfigSent soc section) frames r h bytes f j low base e among is falling = e
apart one back p (DataSent i words) frames r h bytes f j low base e among is falling = omega (arith, e, is_below one back p frames r h bytes f j i low base among is falling.0)

one_frame : FramesAreOne → TagsComeBack → (p : PmuView) (frames : List Sent) (q : PmuView) → HasSent p frames q → (a b : List ℕ) (f g : Fields) (j : ℕ) → 1 ≤ p.rate → p.rate ≤ p.time_base
    → AreFalling (instants_of frames) → IsOneOf a p frames → IsRead p a f j → IsOneOf b p frames → IsRead p b g j → a ≡ b
one_frame one back p [] q h a b f g j low base falling x is y has = absurd x
one_frame one back p (frame ∷ frames) q h a b f g j low base falling (inl x) is (inl y) has =
    newest p frame frames q a h x.0 x.1 x.2 ∙ sym (newest p frame frames q b h y.0 y.1 y.2)
one_frame one back p (frame ∷ frames) q h a b f g j low base falling (inl x) is (inr y) has =
    absurd (apart one back p frame frames h.0 h.1 b g j low base (newest_instant one back p frame frames q h a f j low base (newest p frame frames q a h x.0 x.1 x.2) is) y has falling)
one_frame one back p (frame ∷ frames) q h a b f g j low base falling (inr x) is (inl y) has =
    absurd (apart one back p frame frames h.0 h.1 a f j low base (newest_instant one back p frame frames q h b g j low base (newest p frame frames q b h y.0 y.1 y.2) has) x is falling)
one_frame one back p (frame ∷ frames) q h a b f g j low base falling (inr x) is (inr y) has =
    one_frame one back p frames h.0 h.1 a b f g j low base (falling_older frame frames falling) x is y has

pub one_frame_an_instant : FramesAreOne → TagsComeBack → OneFrameAnInstant
one_frame_an_instant one back id rate time_base frames pmu a b f g instant low base h x is kind at y has kind' at' =
    one_frame one back (new_pmu id rate time_base) frames pmu h a b f g instant low base (instants_rise id rate time_base frames pmu h) x (record { is_frame = is; kind = kind; instant = at })
    y (record { is_frame = has; kind = kind'; instant = at' })

-- The frame is a CFG-2 of a section with the count behind the PMU's.
abbrev IsOfCount : PmuView → Sent → ℕ → Type 0
IsOfCount r (ConfigSent soc section) k = k ≡ r.count + 1
IsOfCount r frame k = ⊥

-- What is read of a CFG-2.
record IsReadConfig (bytes : List ℕ) (f : Fields) (c : ConfigFields) (s : SectionFields) : Type 0 where
  is_frame : IsFrame bytes f
  kind : f.kind ≡ Cfg2
  is_config : IsConfig f.payload c
  section : c.sections ≡ s ∷ []

first_same : (s t : SectionFields) → s ∷ [] ≡ t ∷ [] → s ≡ t
first_same s t e = ap (λ (xs : List SectionFields). get_or xs 0 s) e

is_of_count : FramesAreOne → ConfigsAreOne → (p : PmuView) (frame : Sent) (frames : List Sent) (q : PmuView) (h : HasSent p (frame ∷ frames) q) (bytes : List ℕ) (f : Fields) (c : ConfigFields) (s : SectionFields)
    → bytes ≡ spelling_of (fields_sent h.0 frame) → IsReadConfig bytes f c s → IsOfCount h.0 frame s.count
is_of_count one config p (HeaderSent soc text) frames q h bytes f c s e is =
    let same : HeaderFrame ≡ Cfg2 = sym (ap (λ (g : Fields). g.kind) (read_back one h.0 (HeaderSent soc text) bytes f e h.2.is_frame is.is_frame)) ∙ is.kind in absurd cc
is_of_count one config p (DataSent i words) frames q h bytes f c s e is =
    let same : DataFrame ≡ Cfg2 = sym (ap (λ (g : Fields). g.kind) (read_back one h.0 (DataSent i words) bytes f e h.2.is_frame is.is_frame)) ∙ is.kind in absurd cc
is_of_count one config p (ConfigSent soc section) frames q h bytes f c s e is =
    let payload : f.payload ≡ payload_of (next_config h.0 section) = ap (λ (g : Fields). g.payload) (read_back one h.0 (ConfigSent soc section) bytes f e h.2.is_frame is.is_frame) in
    let same : c ≡ next_config h.0 section = config (payload_of (next_config h.0 section)) c (next_config h.0 section) (subst (λ (xs : List ℕ). IsConfig xs c) payload is.is_config) h.2.allowed.1 in
    ap (λ (t : SectionFields). t.count) (first_same s (renamed h.0.id (h.0.count + 1) section) (sym is.section ∙ ap (λ (d : ConfigFields). d.sections) same))

count_rises : (r : PmuView) (frame : Sent) → r.count ≤ (after r frame).count
count_rises r (HeaderSent soc text) = omega arith
count_rises r (ConfigSent soc section) = omega arith
count_rises r (DataSent instant words) = omega arith

count_reached : (r : PmuView) (frame : Sent) (k : ℕ) → IsOfCount r frame k → k ≤ (after r frame).count
count_reached r (HeaderSent soc text) k e = absurd e
count_reached r (ConfigSent soc section) k e = omega (arith, e)
count_reached r (DataSent instant words) k e = absurd e

-- the count of a CFG-2 among these is at most the PMU's
is_counted : FramesAreOne → ConfigsAreOne → (p : PmuView) (frames : List Sent) (q : PmuView) → HasSent p frames q → (bytes : List ℕ) (f : Fields) (c : ConfigFields) (s : SectionFields)
    → IsOneOf bytes p frames → IsReadConfig bytes f c s → s.count ≤ q.count
is_counted one config p [] q h bytes f c s among is = absurd among
is_counted one config p (frame ∷ frames) q h bytes f c s (inl a) is =
    subst (λ (r : PmuView). s.count ≤ r.count) (sym h.2.left)
    (count_reached h.0 frame s.count (is_of_count one config p frame frames q h bytes f c s (newest p frame frames q bytes h a.0 a.1 a.2) is))
is_counted one config p (frame ∷ frames) q h bytes f c s (inr a) is =
    let rest : s.count ≤ h.0.count = is_counted one config p frames h.0 h.1 bytes f c s a is in
    subst (λ (r : PmuView). s.count ≤ r.count) (sym h.2.left) (omega (arith, rest, count_rises h.0 frame))

newer_count : (r : PmuView) (frame : Sent) (k n : ℕ) → IsOfCount r frame k → n ≤ r.count → k ≡ n → ⊥
newer_count r (HeaderSent soc text) k n e below same = e
newer_count r (ConfigSent soc section) k n e below same = omega (arith, e, below, same)
newer_count r (DataSent instant words) k n e below same = e

same_read : FramesAreOne → ConfigsAreOne → (a b : List ℕ) (f g : Fields) (c d : ConfigFields) (s t : SectionFields) → a ≡ b → IsReadConfig a f c s → IsReadConfig b g d t → s ≡ t
same_read one config a b f g c d s t e is has =
    let fields : f ≡ g = one b f g (subst (λ (xs : List ℕ). IsFrame xs f) e is.is_frame) has.is_frame in
    let same : c ≡ d = config g.payload c d (subst (λ (xs : List ℕ). IsConfig xs c) (ap (λ (x : Fields). x.payload) fields) is.is_config) has.is_config in
    first_same s t (sym is.section ∙ ap (λ (x : ConfigFields). x.sections) same ∙ has.section)

one_section : FramesAreOne → ConfigsAreOne → (p : PmuView) (frames : List Sent) (q : PmuView) → HasSent p frames q → (a b : List ℕ) (f g : Fields) (c d : ConfigFields) (s t : SectionFields)
    → IsOneOf a p frames → IsReadConfig a f c s → IsOneOf b p frames → IsReadConfig b g d t → s.count ≡ t.count → s ≡ t
one_section one config p [] q h a b f g c d s t x is y has same = absurd x
one_section one config p (frame ∷ frames) q h a b f g c d s t (inl x) is (inl y) has same =
    same_read one config a b f g c d s t (newest p frame frames q a h x.0 x.1 x.2 ∙ sym (newest p frame frames q b h y.0 y.1 y.2)) is has
one_section one config p (frame ∷ frames) q h a b f g c d s t (inl x) is (inr y) has same =
    absurd (newer_count h.0 frame s.count t.count (is_of_count one config p frame frames q h a f c s (newest p frame frames q a h x.0 x.1 x.2) is)
    (is_counted one config p frames h.0 h.1 b g d t y has) same)
one_section one config p (frame ∷ frames) q h a b f g c d s t (inr x) is (inl y) has same =
    absurd (newer_count h.0 frame t.count s.count (is_of_count one config p frame frames q h b g d t (newest p frame frames q b h y.0 y.1 y.2) has)
    (is_counted one config p frames h.0 h.1 a f c s x is) (sym same))
one_section one config p (frame ∷ frames) q h a b f g c d s t (inr x) is (inr y) has same =
    one_section one config p frames h.0 h.1 a b f g c d s t x is y has same

pub one_section_a_count : FramesAreOne → ConfigsAreOne → OneSectionACount
one_section_a_count one config id rate time_base frames pmu a b f g c d s t h x is kind is_c section y has kind' is_d section' same =
    one_section one config (new_pmu id rate time_base) frames pmu h a b f g c d s t x (record { is_frame = is; kind = kind; is_config = is_c; section = section })
    y (record { is_frame = has; kind = kind'; is_config = is_d; section = section' }) same
