-- A tick adopts what is ready.
use Rattle.pdc_life.proofs.Names.{[], ◌+◌, ◌<◌, ◌==◌, ◌||◌, ◌∙◌, ◌≡◌, ◌≤◌, any-filter_same, ap, arith, Bool, cleared_count, columns_of, cond, count_for, eqb, filter, has_change, held_section, is_newer, is_ready, leb, List, list_any, max, None, Option, range_with_len, ready_columns, refl, rules, section_in_force, SectionFields, Some, suc, TickAnswer, true, zero, ℕ}
use Rattle.std.specs.Cmp.Derive.{both_true}
use Rattle.pdc_life.specs.Adoption.{IsNewer, ReadyIsAdopted}
use Rattle.pdc_life.proofs.Lists.{by_cases, same_number}

in_range : (c n a : ℕ) → a ≤ c → c < a + n → list_any (λ d. d == c) (range_with_len a n) ≡ true
in_range c zero a h k = absurd (omega (arith, h, k))
in_range c (suc n) a h k =
    by_cases (λ (b : Bool). (b || list_any (λ d. d == c) (range_with_len (a + 1) n)) ≡ true) (eqb a c) (λ e. refl)
    (λ e. let above : a + 1 ≤ c = search rules in in_range c n (a + 1) above (omega (arith, k)))

-- what passes the test and is listed is there behind the filter
still_there : (f : ℕ → Bool) (c : ℕ) (ds : List ℕ) → f c ≡ true → list_any (λ z. z == c) ds ≡ true → list_any (λ z. z == c) (filter f ds) ≡ true
still_there f c ds h l = any-filter_same (λ z. z == c) f true (λ d e. ap f (same_number d c e) ∙ h) ds ∙ l

newer_is : (held : SectionFields) (in_force : Option SectionFields) → IsNewer held in_force → is_newer held in_force ≡ true
newer_is held None h = refl
newer_is held (Some f) h = search rules

ready_is : (held in_force : Option SectionFields) (s : SectionFields) (cleared : ℕ) → held ≡ Some s → IsNewer s in_force → s.count ≤ cleared → is_ready held in_force cleared ≡ true
ready_is held in_force s cleared e h k =
    let low : leb s.count cleared ≡ true = search rules in
    ap (λ o. is_ready o in_force cleared) e ∙ both_true (newer_is s in_force h) low

pub ready_is_adopted : ReadyIsAdopted
ready_is_adopted g E now counts answer c held ticked r =
    let ready : (d : ℕ) → Bool = λ d. is_ready (held_section g E d) (section_in_force g E d) (max (cleared_count g E d) (count_for d counts)) in
    let change : has_change E ≡ true = search rules in
    let listed : list_any (λ d. d == c) (ready_columns g E counts) ≡ true =
    still_there ready c (columns_of g) (ready_is (held_section g E c) (section_in_force g E c) held (max (cleared_count g E c) (count_for c counts)) r.is_held r.newer r.cleared)
    (in_range c g.columns 0 (omega arith) (omega (arith, r.column))) in
    let adopted : answer.adopted ≡ ready_columns g E counts = ap (λ (a : TickAnswer). a.adopted) ticked.0 ∙ ap (λ (b : Bool). cond b (ready_columns g E counts) []) change in
    let is : list_any (λ d. d == c) answer.adopted ≡ true = ap (list_any (λ d. d == c)) adopted ∙ listed in
    ap (λ (b : Bool). cond b (held_section g E c) (section_in_force g E c)) is ∙ r.is_held
