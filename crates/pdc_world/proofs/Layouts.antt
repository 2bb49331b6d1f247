-- Whether bytes have a configuration can be told: its sections are cut one after the other.
use Rattle.std.proofs.Common.{[], ◌%◌, ◌*◌, ◌++◌, ◌+◌, ◌-◌, ◌/◌, ◌<◌, ◌^◌, ◌∙◌, ◌∷◌, ◌≡◌, ◌≤◌, ap, arith, drop, drop_at, if◌then◌else◌, inl, inr, length, length-append, List, nat_eq, refl, subst, suc, sym, take, zero, ℕ}
use Rattle.pdc_world.proofs.HeadlineNames.{AllByRecursion, analogs_in, AreBytes, AreFew, bytes_of_sections, cast_signed, cast_unsigned, ConfigFields, count_in, digitals_in, format_in, HasIntegers, IsConfig, IsSection, len_in, long_at, of_z-to_z, of_z_fits, PartsKeepTheirWords, payload_of, phasors_in, read_sfits, section_len, SectionFields, source_in, take-append-drop, take-append_seam, to_be_bytes, w16, w32, word_at}
use Rattle.pdc_world.proofs.{Told.{both, is_below, is_list, IsTold, likewise}, Valid.{is_section}}

-- ---- one section

is_at_most : (a b : ℕ) → IsTold (a ≤ b)
is_at_most a b = likewise (is_below a (suc b)) (λ h. omega arith) (λ h. omega arith)

are_few : (body : List ℕ) → IsTold (AreFew body)
are_few body =
    likewise (both (is_at_most (phasors_in body) 32) (both (is_at_most (analogs_in body) 32) (is_at_most (digitals_in body) 8)))
    (λ p. record { phasors = p.0; analogs = p.1.0; digitals = p.1.1 }) (λ k. (k.phasors, (k.analogs, k.digitals)))

abbrev front_of : List ℕ → List ℕ
front_of body = take (len_in body) body

-- the section that begins here
abbrev section_in : (body : List ℕ) → AreFew body → SectionFields
section_in body few = record {
  bytes = front_of body;
  shape = record {
    phasors = phasors_in body;
    analogs = analogs_in body;
    digitals = digitals_in body;
    phasors_fit = few.phasors;
    analogs_fit = few.analogs;
    digitals_fit = few.digitals;
  };
  source = source_in (front_of body);
  count = count_in (front_of body);
  polar = nat_eq (format_in (front_of body) % 2) 1;
}

record IsFront (body rest : List ℕ) (s : SectionFields) : Type 0 where
  phasors : phasors_in body ≡ s.shape.phasors
  analogs : analogs_in body ≡ s.shape.analogs
  digitals : digitals_in body ≡ s.shape.digitals
  front : front_of body ≡ s.bytes
  behind : drop (len_in body) body ≡ rest

is_front : PartsKeepTheirWords → (body rest : List ℕ) (s : SectionFields) → IsSection s → body ≡ s.bytes ++ rest → IsFront body rest s
is_front K body rest s k parts =
    let phasors : phasors_in body ≡ s.shape.phasors = ap phasors_in parts ∙ K.word_in_front s.bytes rest 20 (omega (arith, k.size)) ∙ k.phasors in
    let analogs : analogs_in body ≡ s.shape.analogs = ap analogs_in parts ∙ K.word_in_front s.bytes rest 22 (omega (arith, k.size)) ∙ k.analogs in
    let digitals : digitals_in body ≡ s.shape.digitals = ap digitals_in parts ∙ K.word_in_front s.bytes rest 24 (omega (arith, k.size)) ∙ k.digitals in
    let len : len_in body ≡ length s.bytes = (λ i. section_len (phasors i) (analogs i) (digitals i)) ∙ sym k.size in
    record {
      phasors = phasors;
      analogs = analogs;
      digitals = digitals;
      front = (λ i. take (len i) (parts i)) ∙ take-append_seam s.bytes rest;
      behind = (λ i. drop (len i) (parts i)) ∙ drop_at s.bytes rest (length s.bytes) refl;
    }

parity : (n : ℕ) → n < 2 → n ≡ (if nat_eq n 1 then 1 else 0)
parity zero h = refl
parity (suc zero) h = refl
parity (suc (suc n)) h = absurd (omega (arith, h))

is_itself : (body rest : List ℕ) (s : SectionFields) (few : AreFew body) → IsSection s → IsFront body rest s → IsSection (section_in body few)
is_itself body rest s few k f = record {
  fits = subst AreBytes (sym f.front) k.fits;
  size = ap length f.front ∙ k.size ∙ sym (λ i. section_len (f.phasors i) (f.analogs i) (f.digitals i));
  source = refl;
  integers = subst HasIntegers (sym f.front) k.integers;
  polar = parity (format_in (front_of body) % 2) (omega arith);
  phasors = ap phasors_in f.front ∙ k.phasors ∙ sym f.phasors;
  analogs = ap analogs_in f.front ∙ k.analogs ∙ sym f.analogs;
  digitals = ap digitals_in f.front ∙ k.digitals ∙ sym f.digitals;
  count = refl;
}

few_of : (body rest : List ℕ) (s : SectionFields) → IsFront body rest s → AreFew body
few_of body rest s f = record {
  phasors = subst (λ (n : ℕ). n ≤ 32) (sym f.phasors) s.shape.phasors_fit;
  analogs = subst (λ (n : ℕ). n ≤ 32) (sym f.analogs) s.shape.analogs_fit;
  digitals = subst (λ (n : ℕ). n ≤ 8) (sym f.digitals) s.shape.digitals_fit;
}

-- ---- so many sections

pub record AreSections (n : ℕ) (body : List ℕ) : Type 0 where
  pub sections : List SectionFields
  pub many : length sections ≡ n
  pub all : AllByRecursion IsSection sections
  pub parts : body ≡ bytes_of_sections sections

-- the first of them
record HasFirst (n : ℕ) (body : List ℕ) : Type 0 where
  first : SectionFields
  more : List SectionFields
  many : length more ≡ n
  is : IsSection first
  all : AllByRecursion IsSection more
  parts : body ≡ first.bytes ++ bytes_of_sections more

first_of : (n : ℕ) (body : List ℕ) (ss : List SectionFields) → length ss ≡ suc n → AllByRecursion IsSection ss → body ≡ bytes_of_sections ss → HasFirst n body
first_of n body [] many all parts = absurd (omega (arith, many))
first_of n body (s ∷ ss) many all parts = record { first = s; more = ss; many = omega (arith, many); is = all.0; all = all.1; parts = parts }

none_of : (body : List ℕ) (ss : List SectionFields) → length ss ≡ 0 → body ≡ bytes_of_sections ss → body ≡ []
none_of body [] many parts = parts
none_of body (s ∷ ss) many parts = absurd (omega (arith, many))

made : (n : ℕ) (body : List ℕ) (few : AreFew body) → IsSection (section_in body few) × AreSections n (drop (len_in body) body) → AreSections (suc n) body
made n body few (k, S) = record {
  sections = section_in body few ∷ S.sections;
  many = ap suc S.many;
  all = (k, S.all);
  parts = sym (take-append-drop (len_in body) body) ∙ ap (λ (xs : List ℕ). front_of body ++ xs) S.parts;
}

parts_of : PartsKeepTheirWords → (n : ℕ) (body : List ℕ) (few : AreFew body) → AreSections (suc n) body → IsSection (section_in body few) × AreSections n (drop (len_in body) body)
parts_of K n body few S =
    let h : HasFirst n body = first_of n body S.sections S.many S.all S.parts in
    let f : IsFront body (bytes_of_sections h.more) h.first = is_front K body (bytes_of_sections h.more) h.first h.is h.parts in
    (is_itself body (bytes_of_sections h.more) h.first few h.is f, record { sections = h.more; many = h.many; all = h.all; parts = f.behind })

few_at : PartsKeepTheirWords → (n : ℕ) (body : List ℕ) → AreSections (suc n) body → AreFew body
few_at K n body S =
    let h : HasFirst n body = first_of n body S.sections S.many S.all S.parts in
    few_of body (bytes_of_sections h.more) h.first (is_front K body (bytes_of_sections h.more) h.first h.is h.parts)

one_more : PartsKeepTheirWords → (n : ℕ) (body : List ℕ) → IsTold (AreFew body) → IsTold (AreSections n (drop (len_in body) body)) → IsTold (AreSections (suc n) body)
one_more K n body (inl few) rest = likewise (both (is_section (section_in body few)) rest) (made n body few) (parts_of K n body few)
one_more K n body (inr many) rest = inr (λ S. many (few_at K n body S))

pub are_sections : PartsKeepTheirWords → (n : ℕ) (body : List ℕ) → IsTold (AreSections n body)
are_sections K zero body =
    likewise (is_list body []) (λ e. record { sections = []; many = refl; all = tt; parts = e }) (λ S. none_of body S.sections S.many S.parts)
are_sections K (suc n) body = one_more K n body (are_few body) (are_sections K n (drop (len_in body) body))

-- ---- a configuration

abbrev body_of : List ℕ → List ℕ
body_of payload = take (length payload - 8) (drop 6 payload)

abbrev rate_at : List ℕ → ℕ
rate_at payload = word_at payload (length payload - 2)

abbrev config_of : (payload : List ℕ) → List SectionFields → ConfigFields
config_of payload sections = record {
  flags = long_at payload 0 / 2 ^ 24;
  time_base = long_at payload 0 % 2 ^ 24;
  sections = sections;
  rate = cast_signed w16 (rate_at payload);
}

body_again : (c : ConfigFields) → body_of (payload_of c) ≡ bytes_of_sections c.sections
body_again c =
    let tail : List ℕ = to_be_bytes w16 (cast_unsigned w16 c.rate) in
    let len : length (payload_of c) - 8 ≡ length (bytes_of_sections c.sections) = omega (arith, length-append (bytes_of_sections c.sections) tail) in
    ap (λ (k : ℕ). take k (bytes_of_sections c.sections ++ tail)) len ∙ take-append_seam (bytes_of_sections c.sections) tail

many_again : (c : ConfigFields) → length c.sections ≤ 17 → word_at (payload_of c) 4 ≡ length c.sections
many_again c h = omega (arith, h)

first_again : (c : ConfigFields) → c.flags < 2 ^ 8 → c.time_base < 2 ^ 24 → c.flags * 2 ^ 24 + c.time_base ≡ long_at (payload_of c) 0
first_again c flags base = omega (arith, flags, base)

rate_again : PartsKeepTheirWords → (c : ConfigFields) → cast_unsigned w16 c.rate < 2 ^ 16 → rate_at (payload_of c) ≡ cast_unsigned w16 c.rate
rate_again K c small =
    let tail : List ℕ = to_be_bytes w16 (cast_unsigned w16 c.rate) in
    let front : List ℕ = to_be_bytes w32 (c.flags * 2 ^ 24 + c.time_base) ++ to_be_bytes w16 (length c.sections) ++ bytes_of_sections c.sections in
    let at : length (payload_of c) - 2 ≡ length front + 0 = omega (arith, length-append (bytes_of_sections c.sections) tail) in
    let last : word_at tail 0 ≡ cast_unsigned w16 c.rate = omega (arith, small) in
    ap (λ (k : ℕ). word_at (payload_of c) k) at ∙ K.word_behind front tail 0 ∙ last

abbrev sections_of_config : (payload : List ℕ) (c : ConfigFields) → IsConfig payload c → AreSections (word_at payload 4) (body_of payload)
sections_of_config payload c k = record {
  sections = c.sections;
  many = sym (ap (λ (b : List ℕ). word_at b 4) k.spelled ∙ many_again c k.few);
  all = k.sections;
  parts = ap body_of k.spelled ∙ body_again c;
}

abbrev SpelledParts : List ℕ → List SectionFields → Type 0
SpelledParts payload sections =
    (long_at payload 0 / 2 ^ 24 < 2 ^ 8) × ((0 < length sections) × ((length sections ≤ 17) × (payload ≡ payload_of (config_of payload sections))))

config_of_spelled : (payload : List ℕ) (S : AreSections (word_at payload 4) (body_of payload)) → SpelledParts payload S.sections → IsConfig payload (config_of payload S.sections)
config_of_spelled payload S (flags, (some, (few, spelled))) = record {
  flags = flags;
  time_base = omega arith;
  some = some;
  few = few;
  sections = S.all;
  rate = read_sfits w16 (rate_at payload);
  spelled = spelled;
}

abbrev spell : (first many : ℕ) → List ℕ → (rate : ℕ) → List ℕ
spell first many bytes rate = to_be_bytes w32 first ++ to_be_bytes w16 many ++ bytes ++ to_be_bytes w16 rate

spelled_of_config : PartsKeepTheirWords → (payload : List ℕ) (S : AreSections (word_at payload 4) (body_of payload)) (c : ConfigFields) → IsConfig payload c → SpelledParts payload S.sections
spelled_of_config K payload S c k =
    let own : AreSections (word_at payload 4) (body_of payload) = sections_of_config payload c k in
    let whole : c.flags * 2 ^ 24 + c.time_base ≡ long_at payload 0 = first_again c k.flags k.time_base ∙ ap (λ (b : List ℕ). long_at b 0) (sym k.spelled) in
    let small : cast_unsigned w16 c.rate < 2 ^ 16 = (of_z_fits w16 c.rate k.rate).fits in
    let rate : rate_at payload ≡ cast_unsigned w16 c.rate = ap rate_at k.spelled ∙ rate_again K c small in
    let first : c.flags * 2 ^ 24 + c.time_base ≡ long_at payload 0 / 2 ^ 24 * 2 ^ 24 + long_at payload 0 % 2 ^ 24 = omega (arith, whole) in
    let many : length c.sections ≡ length S.sections = own.many ∙ sym S.many in
    let bytes : bytes_of_sections c.sections ≡ bytes_of_sections S.sections = sym own.parts ∙ S.parts in
    let last : cast_unsigned w16 c.rate ≡ cast_unsigned w16 (cast_signed w16 (rate_at payload)) =
    sym rate ∙ sym (of_z-to_z w16 (rate_at payload) (subst (λ (n : ℕ). n < 2 ^ 16) (sym rate) small)) in (
      omega (arith, whole, k.flags, k.time_base),
      (omega (arith, many, k.some), (omega (arith, many, k.few), k.spelled ∙ (λ i. spell (first i) (many i) (bytes i) (last i)))),
    )

-- the bytes are some configuration
abbrev pub HasSomeConfig : List ℕ → Type 0
HasSomeConfig payload = (c : ConfigFields) × IsConfig payload c

by_sections : PartsKeepTheirWords → (payload : List ℕ) → IsTold (AreSections (word_at payload 4) (body_of payload)) → IsTold (HasSomeConfig payload)
by_sections K payload (inr none) = inr (λ x. none (sections_of_config payload x.0 x.1))
by_sections K payload (inl S) =
    likewise
    (both (is_below (long_at payload 0 / 2 ^ 24) (2 ^ 8)) (both (is_below 0 (length S.sections)) (both (is_at_most (length S.sections) 17)
    (is_list payload (payload_of (config_of payload S.sections))))))
    (λ p. (config_of payload S.sections, config_of_spelled payload S p)) (λ x. spelled_of_config K payload S x.0 x.1)

pub has_some_config : PartsKeepTheirWords → (payload : List ℕ) → IsTold (HasSomeConfig payload)
has_some_config K payload = by_sections K payload (are_sections K (word_at payload 4) (body_of payload))
