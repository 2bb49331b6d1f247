-- Sections stand beside the columns of their sources exactly where they are found there one after the other.
use Rattle.std.proofs.Common.{◌≡◌, ℕ, zero, suc, ◌+◌, ◌-◌, ◌<◌, ◌≤◌, Bool, true, false, List, [], ◌∷◌, cond, eqb, map, refl, sym, ap, ◌∙◌, arith, rules, Some}
use Rattle.std.specs.List.{AllByRecursion, slice_get}
use Rattle.std.proofs.lemmas.Bool.{false≢true}
use Rattle.std.proofs.lemmas.Option.{none-some, same_Some}
use Rattle.pdc_life.specs.pdc_cfg.Section.{SectionFields}
use Rattle.pdc_life.specs.pdc_row.Rising.{Rises}
use Rattle.pdc_life.specs.MergerReading.{AreOfTable}
use Rattle.pdc_arrival.specs.Placing.{are_in_order, parts_from}

abbrev Parts : Type 0
Parts = List (ℕ × SectionFields)

abbrev sections_in : Parts → List SectionFields
sections_in parts = map (λ (part : ℕ × SectionFields). part.1) parts

abbrev columns_above : Parts → List ℕ
columns_above parts = map (λ (part : ℕ × SectionFields). part.0 + 1) parts

same_number : (m n : ℕ) → eqb m n ≡ true → m ≡ n
same_number m n h = search rules

same_is_equal : (m n : ℕ) → m ≡ n → eqb m n ≡ true
same_is_equal m n h = search rules

-- ---- what is found is so

step_sections : (b p q : Bool) (c : ℕ) (s : SectionFields) (sections : List SectionFields) (found other : Parts) → (p ≡ true → sections_in found ≡ sections) → (q ≡ true → sections_in other ≡ s ∷ sections)
    → cond b p q ≡ true → sections_in (cond b ((c, s) ∷ found) other) ≡ s ∷ sections
step_sections true p q c s sections found other f g h = ap (λ (ss : List SectionFields). s ∷ ss) (f h)
step_sections false p q c s sections found other f g h = g h

found_sections : (c : ℕ) (sources : List ℕ) (sections : List SectionFields) → are_in_order sources sections ≡ true → sections_in (parts_from c sources sections) ≡ sections
found_sections c [] [] h = refl
found_sections c (x ∷ sources) [] h = refl
found_sections c [] (s ∷ sections) h = absurd (false≢true h)
found_sections c (x ∷ sources) (s ∷ sections) h =
    step_sections (eqb x s.source) (are_in_order sources sections) (are_in_order sources (s ∷ sections)) c s sections (parts_from (c + 1) sources sections) (parts_from (c + 1) sources (s ∷ sections))
    (found_sections (c + 1) sources sections) (found_sections (c + 1) sources (s ∷ sections)) h

abbrev IsListed : List ℕ → ℕ × SectionFields → Type 0
IsListed sources part = slice_get sources part.0 ≡ Some part.1.source

step_listed : (whole : List ℕ) (b : Bool) (c : ℕ) (s : SectionFields) (found other : Parts) → (b ≡ true → IsListed whole (c, s)) → AllByRecursion (IsListed whole) found → AllByRecursion (IsListed whole) other
    → AllByRecursion (IsListed whole) (cond b ((c, s) ∷ found) other)
step_listed whole true c s found other f g h = (f refl, g)
step_listed whole false c s found other f g h = h

first_of : (whole : List ℕ) (c x y : ℕ) → eqb x y ≡ true → slice_get whole (c + 0) ≡ Some x → slice_get whole c ≡ Some y
first_of whole c x y e h =
    let z : c + 0 ≡ c = omega arith in
    ap (slice_get whole) (sym z) ∙ h ∙ ap Some (same_number x y e)

found_listed : (whole : List ℕ) (c : ℕ) (sources : List ℕ) (sections : List SectionFields) → ((k x : ℕ) → slice_get sources k ≡ Some x → slice_get whole (c + k) ≡ Some x)
    → AllByRecursion (IsListed whole) (parts_from c sources sections)
found_listed whole c [] [] h = tt
found_listed whole c (x ∷ sources) [] h = tt
found_listed whole c [] (s ∷ sections) h = tt
found_listed whole c (x ∷ sources) (s ∷ sections) h =
    let later : (k y : ℕ) → slice_get sources k ≡ Some y → slice_get whole ((c + 1) + k) ≡ Some y =
    λ k y e. let n : (c + 1) + k ≡ c + suc k = omega arith in ap (slice_get whole) n ∙ h (suc k) y e in
    step_listed whole (eqb x s.source) c s (parts_from (c + 1) sources sections) (parts_from (c + 1) sources (s ∷ sections)) (λ e. first_of whole c x s.source e (h 0 x refl))
    (found_listed whole (c + 1) sources sections later) (found_listed whole (c + 1) sources (s ∷ sections) later)

step_rises : (b : Bool) (n c : ℕ) (s : SectionFields) (found other : Parts) → n ≤ c → Rises (c + 1) (columns_above found) → Rises n (columns_above other) → Rises n (columns_above (cond b ((c, s) ∷ found) other))
step_rises true n c s found other h f g = (omega (arith, h), f)
step_rises false n c s found other h f g = g

found_rises : (n c : ℕ) (sources : List ℕ) (sections : List SectionFields) → n ≤ c → Rises n (columns_above (parts_from c sources sections))
found_rises n c [] [] h = tt
found_rises n c (x ∷ sources) [] h = tt
found_rises n c [] (s ∷ sections) h = tt
found_rises n c (x ∷ sources) (s ∷ sections) h =
    step_rises (eqb x s.source) n c s (parts_from (c + 1) sources sections) (parts_from (c + 1) sources (s ∷ sections)) h
    (found_rises (c + 1) (c + 1) sources sections (omega arith)) (found_rises n (c + 1) sources (s ∷ sections) (omega (arith, h)))

pub of_table : (sources : List ℕ) (sections : List SectionFields) → are_in_order sources sections ≡ true → AreOfTable sources sections (parts_from 0 sources sections)
of_table sources sections h = record {
  same = found_sections 0 sources sections h;
  listed = found_listed sources 0 sources sections (λ k x e. let z : 0 + k ≡ k = omega arith in ap (slice_get sources) z ∙ e);
  rise = found_rises 0 0 sources sections (omega arith);
}

-- ---- what is so is found

-- the source stands at the column, counted from c on
abbrev IsAt : ℕ → List ℕ → ℕ × SectionFields → Type 0
IsAt c sources part = slice_get sources (part.0 - c) ≡ Some part.1.source

rises_lower : (m n : ℕ) (ns : List ℕ) → n ≤ m → Rises m ns → Rises n ns
rises_lower m n [] h r = tt
rises_lower m n (k ∷ ns) h r = (omega (arith, h, r.0), r.1)

behind_first : (x : ℕ) (xs : List ℕ) (c : ℕ) (part : ℕ × SectionFields) → c + 1 ≤ part.0 → IsAt c (x ∷ xs) part → IsAt (c + 1) xs part
behind_first x xs c part h a = let n : part.0 - c ≡ suc (part.0 - (c + 1)) = omega (arith, h) in ap (slice_get (x ∷ xs)) (sym n) ∙ a

all_behind : (x : ℕ) (xs : List ℕ) (c m : ℕ) (parts : Parts) → c + 1 ≤ m → Rises m (columns_above parts) → AllByRecursion (IsAt c (x ∷ xs)) parts → AllByRecursion (IsAt (c + 1) xs) parts
all_behind x xs c m [] h r a = tt
all_behind x xs c m (part ∷ parts) h r a =
    (behind_first x xs c part (omega (arith, h, r.0)) a.0, all_behind x xs c (part.0 + 1) parts (omega (arith, h, r.0)) r.1 a.1)

not_first : (x : ℕ) (xs : List ℕ) (d y : ℕ) → slice_get (x ∷ xs) d ≡ Some y → eqb x y ≡ false → 0 < d
not_first x xs zero y h e = absurd (false≢true (sym e ∙ same_is_equal x y (same_Some x y h)))
not_first x xs (suc d) y h e = omega arith

none_is : (s : SectionFields) (ss : List SectionFields) → [] ≡ s ∷ ss → ⊥
none_is s ss e = cc

heads : (s t : SectionFields) (ss ts : List SectionFields) → s ∷ ss ≡ t ∷ ts → (s ≡ t) × (ss ≡ ts)
heads s t ss ts e =
    let one : s ≡ t = cc in
    let rest : ss ≡ ts = cc in
    (one, rest)

step_found : (b p q : Bool) → (b ≡ true → p ≡ true) → (b ≡ false → q ≡ true) → cond b p q ≡ true
step_found true p q f g = f refl
step_found false p q f g = g refl

must_be_found : (c : ℕ) (sources : List ℕ) (sections : List SectionFields) (parts : Parts) → sections_in parts ≡ sections → AllByRecursion (IsAt c sources) parts → Rises c (columns_above parts)
    → are_in_order sources sections ≡ true
must_be_found c [] [] parts e a r = refl
must_be_found c (x ∷ sources) [] parts e a r = refl
must_be_found c [] (s ∷ sections) [] e a r = absurd (none_is s sections e)
must_be_found c [] (s ∷ sections) (part ∷ parts) e a r = absurd (none-some part.1.source a.0)
must_be_found c (x ∷ sources) (s ∷ sections) [] e a r = absurd (none_is s sections e)
must_be_found c (x ∷ sources) (s ∷ sections) (part ∷ parts) e a r =
    let same = heads part.1 s (sections_in parts) sections e in
    step_found (eqb x s.source) (are_in_order sources sections) (are_in_order sources (s ∷ sections))
    (λ b. must_be_found (c + 1) sources sections parts same.1 (all_behind x sources c (part.0 + 1) parts (omega (arith, r.0)) r.1 a.1)
    (rises_lower (part.0 + 1) (c + 1) (columns_above parts) (omega (arith, r.0)) r.1))
    (λ b.
    let later : 0 < part.0 - c = not_first x sources (part.0 - c) s.source (a.0 ∙ ap (λ (t : SectionFields). Some t.source) same.0) b in
    must_be_found (c + 1) sources (s ∷ sections) (part ∷ parts) e
    (behind_first x sources c part (omega (arith, later)) a.0, all_behind x sources c (part.0 + 1) parts (omega (arith, r.0)) r.1 a.1)
    (omega (arith, later), r.1))

from_zero : (sources : List ℕ) (parts : Parts) → AllByRecursion (IsListed sources) parts → AllByRecursion (IsAt 0 sources) parts
from_zero sources [] a = tt
from_zero sources (part ∷ parts) a = (let z : part.0 - 0 ≡ part.0 = omega arith in ap (slice_get sources) z ∙ a.0, from_zero sources parts a.1)

pub not_of_table : (sources : List ℕ) (sections : List SectionFields) → are_in_order sources sections ≡ false → (parts : Parts) → AreOfTable sources sections parts → ⊥
not_of_table sources sections h parts t =
    false≢true (sym h ∙ must_be_found 0 sources sections parts t.same (from_zero sources parts t.listed) t.rise)
