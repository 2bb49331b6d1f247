-- A frame that a PMU may send fits into the index, and so does a frame of none.
use Rattle.std.proofs.Common.{◌≡◌, ℕ, ◌+◌, ◌<◌, List, [], ◌∷◌, ◌++◌, length, length-append, get_or, arith, refl, sym, ap, subst, ◌∙◌, inl, inr, Some}
use Rattle.std.specs.Prelude.{◌⊎◌}
use Rattle.std.specs.List.{Contains, slice_get}
use Rattle.std.proofs.Math.ListN.{get_or-append}
use Rattle.std.proofs.Math.Seq.{get_or-append_seam}
use Rattle.std.proofs.lemmas.Bool.{cases_order}
use Rattle.std.proofs.lemmas.List.Elements.{Contains-push_cases}
use Rattle.std.proofs.lemmas.Option.{same_Some}
use Rattle.pdc_life.specs.declared.given.Settings.{Settings}
use Rattle.pdc_life.specs.declared.pmu.Pmu.{Pmu}
use Rattle.pdc_history.specs.declared.send_fault.SendFault.{SendFault}
use Rattle.pdc_history.specs.declared.send_fault.SendFault.TheVariants.{Foreign, NoMemory, OtherBody, OtherSection}
use Rattle.pdc_history.specs.declared.key.Key.{Key}
use Rattle.pdc_history.specs.declared.key.Key.TheVariants.{Count, Instant}
use Rattle.pdc_history.specs.Index.{Fits, IsIndexed, bucket_under}
use Rattle.pdc_history.specs.Sent.{HasOther, HasToldAtMost, HasToldOther, IsOfNone, IsOfPmu, IsRefused, IsSendFault, MaySendAfter, SentView, fault_of}
use Rattle.pdc_history.specs.Told.{Tells, ToldView}
use Rattle.pdc_history.proofs.Streams.{OneFrame, told_of_pmu, told_of_stream}
use Rattle.pdc_history.proofs.Tellings.{view}

-- ---- what a frame of a PMU tells, and what it tells of another one

abbrev pub TellsNothing : Settings → Pmu → List ℕ → Type 0
TellsNothing settings pmu bytes = (key : Key) (x : List ℕ) → Tells settings pmu bytes key x → ⊥

abbrev pub TellsOnly : Settings → Pmu → List ℕ → ToldView → Type 0
TellsOnly settings pmu bytes t = (key : Key) (x : List ℕ) → Tells settings pmu bytes key x → Some t ≡ Some (view key x)

same_pmu : OneFrame → (settings : Settings) (p q : ℕ) (pmu other : Pmu) (bytes : List ℕ) (key : Key) (x : List ℕ) → IsOfPmu settings p pmu bytes → slice_get settings.pmus.items q ≡ Some other
    → Tells settings other bytes key x → Tells settings pmu bytes key x
same_pmu one settings p q pmu other bytes key x is listed tells =
    subst (λ (y : Pmu). Tells settings y bytes key x) (told_of_pmu one settings p q pmu other bytes key x is listed tells) tells

pub fits_silent : OneFrame → (settings : Settings) (frames : List (List ℕ)) (p : ℕ) (pmu : Pmu) (bytes : List ℕ) (bucket : ℕ) → IsOfPmu settings p pmu bytes → TellsNothing settings pmu bytes → Fits settings frames bytes bucket
fits_silent one settings frames p pmu bytes bucket is none = record {
  keyed = λ q other key x listed tells. absurd (none key x (same_pmu one settings p q pmu other bytes key x is listed tells));
  alone = λ q other key x y listed tells again. absurd (none key x (same_pmu one settings p q pmu other bytes key x is listed tells));
  one = λ q other frame key x y listed among tells again. absurd (none key x (same_pmu one settings p q pmu other bytes key x is listed tells));
}

pub fits_foreign : (settings : Settings) (frames : List (List ℕ)) (bytes : List ℕ) (bucket : ℕ) → IsOfNone settings bytes → Fits settings frames bytes bucket
fits_foreign settings frames bytes bucket none = record {
  keyed = λ q other key x listed tells. absurd (no q other key x listed tells);
  alone = λ q other key x y listed tells again. absurd (no q other key x listed tells);
  one = λ q other frame key x y listed among tells again. absurd (no q other key x listed tells);
}
  where
    no : (q : ℕ) (other : Pmu) (key : Key) (x : List ℕ) → slice_get settings.pmus.items q ≡ Some other → Tells settings other bytes key x → ⊥
    no q other key x listed tells =
        let its = told_of_stream settings other bytes key x tells in
        none q other (record { listed = listed; fields = its.0; of_stream = its.1 })

key_is : (settings : Settings) (pmu : Pmu) (bytes : List ℕ) (t : ToldView) (key : Key) (x : List ℕ) → TellsOnly settings pmu bytes t → Tells settings pmu bytes key x → t ≡ view key x
key_is settings pmu bytes t key x only tells = same_Some t (view key x) (only key x tells)

pub fits_told : OneFrame → (settings : Settings) (frames : List (List ℕ)) (p : ℕ) (pmu : Pmu) (bytes : List ℕ) (bucket : ℕ) (t : ToldView) → IsOfPmu settings p pmu bytes → TellsOnly settings pmu bytes t
    → HasToldAtMost settings frames pmu t.key t.content → bucket ≡ bucket_under pmu.stream.value t.key → Fits settings frames bytes bucket
fits_told one settings frames p pmu bytes bucket t is only most at = record {
  keyed = λ q other key x listed tells.
      let same : other ≡ pmu = told_of_pmu one settings p q pmu other bytes key x is listed tells in
      let told : t ≡ view key x = key_is settings pmu bytes t key x only (same_pmu one settings p q pmu other bytes key x is listed tells) in
      at ∙ ap (λ (v : ToldView). bucket_under pmu.stream.value v.key) told ∙ ap (λ (y : Pmu). bucket_under y.stream.value key) (sym same);
  alone = λ q other key x y listed tells again.
      let told : t ≡ view key x = key_is settings pmu bytes t key x only (same_pmu one settings p q pmu other bytes key x is listed tells) in
      let twice : t ≡ view key y = key_is settings pmu bytes t key y only (same_pmu one settings p q pmu other bytes key y is listed again) in
      ap (λ (v : ToldView). v.content) (sym told ∙ twice);
  one = λ q other frame key x y listed among tells again.
      let same : other ≡ pmu = told_of_pmu one settings p q pmu other bytes key x is listed tells in
      let told : t ≡ view key x = key_is settings pmu bytes t key x only (same_pmu one settings p q pmu other bytes key x is listed tells) in
      sym (ap (λ (v : ToldView). v.content) told) ∙ most frame y among
      (subst (λ (v : ToldView). Tells settings pmu frame v.key y) (sym told) (subst (λ (z : Pmu). Tells settings z frame key y) same again));
}

-- ---- what a PMU may send

pub may_silent : (settings : Settings) (frames : List (List ℕ)) (p : ℕ) (pmu : Pmu) (bytes : List ℕ) → IsOfPmu settings p pmu bytes → TellsNothing settings pmu bytes → MaySendAfter settings frames bytes
may_silent settings frames p pmu bytes is none = record {
  p = p;
  pmu = pmu;
  of_pmu = is;
  one = λ other key x y among tells again. absurd (none key x tells);
}

pub may_told : (settings : Settings) (frames : List (List ℕ)) (p : ℕ) (pmu : Pmu) (bytes : List ℕ) (t : ToldView) → IsOfPmu settings p pmu bytes → TellsOnly settings pmu bytes t
    → HasToldAtMost settings frames pmu t.key t.content → MaySendAfter settings frames bytes
may_told settings frames p pmu bytes t is only most = record {
  p = p;
  pmu = pmu;
  of_pmu = is;
  one = λ other key x y among tells again.
      let told : t ≡ view key x = key_is settings pmu bytes t key x only tells in
      sym (ap (λ (v : ToldView). v.content) told) ∙ most other y among (subst (λ (v : ToldView). Tells settings pmu other v.key y) (sym told) again);
}

-- ---- and why it may not

has_other : (settings : Settings) (frames : List (List ℕ)) (p : ℕ) (pmu : Pmu) (bytes : List ℕ) (key : Key) (x : List ℕ) → IsOfPmu settings p pmu bytes → Tells settings pmu bytes key x
    → HasToldOther settings frames pmu key x → HasOther settings frames bytes key
has_other settings frames p pmu bytes key x is tells was = record {
  p = p;
  pmu = pmu;
  of_pmu = is;
  content = x;
  tells = tells;
  other = was.told.frame;
  among = was.told.among;
  its_content = was.its_content;
  was = was.told.tells;
  differs = was.differs;
}

refused_under : (settings : Settings) (frames : List (List ℕ)) (bytes : List ℕ) (key : Key) → HasOther settings frames bytes key → IsRefused settings frames bytes (fault_of key)
refused_under settings frames bytes (Instant i) has = (i, has)
refused_under settings frames bytes (Count n) has = (n, has)

pub refused : (settings : Settings) (frames : List (List ℕ)) (p : ℕ) (pmu : Pmu) (bytes : List ℕ) (key : Key) (x : List ℕ) (fault : SendFault) → IsOfPmu settings p pmu bytes → Tells settings pmu bytes key x
    → HasToldOther settings frames pmu key x → fault ≡ fault_of key → IsRefused settings frames bytes fault
refused settings frames p pmu bytes key x fault is tells was e =
    subst (λ (f : SendFault). IsRefused settings frames bytes f) (sym e) (refused_under settings frames bytes key (has_other settings frames p pmu bytes key x is tells was))

pub refused_is_fault : (v : SentView) (bytes : List ℕ) (fault : SendFault) → IsRefused v.settings v.frames bytes fault → IsSendFault v bytes fault
refused_is_fault v bytes Foreign is = is
refused_is_fault v bytes OtherBody is = is
refused_is_fault v bytes OtherSection is = is
refused_is_fault v bytes NoMemory is = absurd is

-- ---- one frame more in the index

here_or_below : (n m : ℕ) → n < m + 1 → (n ≡ m) ⊎ (n < m)
here_or_below n m h = elim (cases_order n m) [ inl e ↦ inl e | inr (inl l) ↦ inr l | inr (inr g) ↦ absurd (omega (arith, h, g)) ]

one_longer : {X : Type 0} → (xs : List X) (x : X) → length (xs ++ x ∷ []) ≡ length xs + 1
one_longer xs x = length-append xs (x ∷ [])

pub indexed_push : (settings : Settings) (F : List (List ℕ)) (K : List ℕ) (bytes : List ℕ) (bucket : ℕ) → IsIndexed settings F K → Fits settings F bytes bucket → IsIndexed settings (F ++ bytes ∷ []) (K ++ bucket ∷ [])
indexed_push settings F K bytes bucket is fits = record {
  len = one_longer K bucket ∙ ap (λ (n : ℕ). n + 1) is.len ∙ sym (one_longer F bytes);
  keyed = λ n p pmu key x h listed tells.
      elim (here_or_below n (length F) (subst (λ (m : ℕ). n < m) (one_longer F bytes) h)) [
        | inl at ↦ at_end n p pmu key x at listed tells
        | inr l ↦ at_place n p pmu key x l listed tells
      ];
  one = λ p pmu a b key x y listed u v tells again.
      both p pmu a b key x y listed tells again (Contains-push_cases F bytes a u) (Contains-push_cases F bytes b v);
}
  where
    at_end : (n p : ℕ) (pmu : Pmu) (key : Key) (x : List ℕ) → n ≡ length F → slice_get settings.pmus.items p ≡ Some pmu → Tells settings pmu (get_or (F ++ bytes ∷ []) n []) key x
        → get_or (K ++ bucket ∷ []) n 0 ≡ bucket_under pmu.stream.value key
    at_end n p pmu key x at listed tells =
        let here : get_or (F ++ bytes ∷ []) n [] ≡ bytes = ap (λ (m : ℕ). get_or (F ++ bytes ∷ []) m []) at ∙ get_or-append_seam F bytes [] [] in
        let there : get_or (K ++ bucket ∷ []) n 0 ≡ bucket = ap (λ (m : ℕ). get_or (K ++ bucket ∷ []) m 0) (at ∙ sym is.len) ∙ get_or-append_seam K bucket [] 0 in
        there ∙ fits.keyed p pmu key x listed (subst (λ (z : List ℕ). Tells settings pmu z key x) here tells)

    at_place : (n p : ℕ) (pmu : Pmu) (key : Key) (x : List ℕ) → n < length F → slice_get settings.pmus.items p ≡ Some pmu → Tells settings pmu (get_or (F ++ bytes ∷ []) n []) key x
        → get_or (K ++ bucket ∷ []) n 0 ≡ bucket_under pmu.stream.value key
    at_place n p pmu key x l listed tells =
        get_or-append K (bucket ∷ []) 0 n (subst (λ (m : ℕ). n < m) (sym is.len) l)
        ∙ is.keyed n p pmu key x l listed (subst (λ (z : List ℕ). Tells settings pmu z key x) (get_or-append F (bytes ∷ []) [] n l) tells)

    both : (p : ℕ) (pmu : Pmu) (a b : List ℕ) (key : Key) (x y : List ℕ) → slice_get settings.pmus.items p ≡ Some pmu → Tells settings pmu a key x → Tells settings pmu b key y
        → Contains F a ⊎ (bytes ≡ a) → Contains F b ⊎ (bytes ≡ b) → x ≡ y
    both p pmu a b key x y listed tells again (inl u) (inl v) = is.one p pmu a b key x y listed u v tells again
    both p pmu a b key x y listed tells again (inr u) (inl v) =
        fits.one p pmu b key x y listed v (subst (λ (z : List ℕ). Tells settings pmu z key x) (sym u) tells) again
    both p pmu a b key x y listed tells again (inl u) (inr v) =
        sym (fits.one p pmu a key y x listed u (subst (λ (z : List ℕ). Tells settings pmu z key y) (sym v) again) tells)
    both p pmu a b key x y listed tells again (inr u) (inr v) =
        fits.alone p pmu key x y listed (subst (λ (z : List ℕ). Tells settings pmu z key x) (sym u) tells) (subst (λ (z : List ℕ). Tells settings pmu z key y) (sym v) again)

pub none_indexed : (settings : Settings) → IsIndexed settings [] []
none_indexed settings = record {
  len = refl;
  keyed = λ n p pmu key x h listed tells. absurd (omega (arith, h));
  one = λ p pmu a b key x y listed u v tells again. absurd (omega (arith, u.1));
}
