-- One answer more is counted.
use Rattle.std.proofs.Common.{◌≡◌, ℕ, ◌<◌, Bool, true, false, cond, eqb, List, ◌∷◌, filter, get_or, length, map, set, length-set, refl, sym, ◌∙◌, ap, arith, suc}
use Rattle.std.specs.List.{range_with_len}
use Rattle.std.proofs.lemmas.Bool.{eqb-false, eqb-true}
use Rattle.std.proofs.lemmas.List.{ext_get_or, get_or-set_other, get_or-set_same}
use Rattle.std.proofs.lemmas.List.FromFn.{get_or-map-range_with_len, length-map-range_with_len}
use Rattle.pdc_life.specs.pdc_row.CellView.{CellView}
use Rattle.pdc_life.specs.Arrival.{Arrival}
use Rattle.pdc_life.specs.Counts.{count_answers, is_answered, is_refused_as, refused_as, shown}
use Rattle.pdc_life.specs.Life.{Arrive, Entry}
use Rattle.pdc_life.specs.declared.outcome.Outcome.{Outcome}
use Rattle.pdc_life.specs.declared.outcome.Outcome.TheVariants.{Candidate, Known, Refused, Taken}
use Rattle.pdc_life.specs.declared.outcome.Refusal.{Refusal}
use Rattle.pdc_arrival.specs.declared.counts.Counts.{Counts}
use Rattle.pdc_life.specs.Causes.{number_of}
use Rattle.pdc_life.specs.declared.outcome.TheConstants.{CAUSES}
use Rattle.pdc_arrival.specs.Counts.{after_answer, counts_after, is_cause, next}
use Rattle.pdc_life.proofs.Causes.{within}

next_shown : (n : ℕ) → next (shown n) ≡ shown (suc n)
next_shown n = omega arith

-- the arrivals that were refused by the cause of this number
abbrev refused_by : List Entry → ℕ → ℕ
refused_by E n = refused_as (is_cause n) E

-- and after one more that has the cause, or not
abbrev refused_more : (e : Entry) (E : List Entry) (n : ℕ) → Bool → ℕ
refused_more e E n b = shown (length (cond b (e ∷ filter (is_answered (is_refused_as (is_cause n))) E) (filter (is_answered (is_refused_as (is_cause n))) E)))

abbrev causes_of : List Entry → List ℕ
causes_of E = map (refused_by E) (range_with_len 0 CAUSES)

cause_at : (E : List Entry) (n : ℕ) → n < CAUSES → get_or (causes_of E) n 0 ≡ refused_by E n
cause_at E n l = get_or-map-range_with_len (refused_by E) 0 CAUSES n n 0 l (omega arith)

one_cause : (e : Entry) (E : List Entry) (k n : ℕ) (b : Bool) → eqb k n ≡ b → k < CAUSES → n < CAUSES
    → get_or (set (causes_of E) k (next (get_or (causes_of E) k 0))) n 0 ≡ refused_more e E n b
one_cause e E k n true is l m =
    let same : k ≡ n = eqb-true k n is in
    ap (λ j. get_or (set (causes_of E) j (next (get_or (causes_of E) j 0))) n 0) same
    ∙ get_or-set_same (causes_of E) n (next (get_or (causes_of E) n 0)) 0 (omega (arith, m, length-map-range_with_len (refused_by E) 0 CAUSES))
    ∙ ap next (cause_at E n m)
    ∙ next_shown (count_answers (is_refused_as (is_cause n)) E)
one_cause e E k n false is l m =
    get_or-set_other (causes_of E) k n (next (get_or (causes_of E) k 0)) 0 (λ q. eqb-false k n is (sym q))
    ∙ cause_at E n m

causes_more : (E : List Entry) (s : ℕ) (bytes : List ℕ) (a : Arrival) (cells : List (ℕ × CellView)) (r : Refusal)
    → set (causes_of E) (number_of r) (next (get_or (causes_of E) (number_of r) 0)) ≡ causes_of (Arrive s bytes a (record { outcome = Refused r; cells = cells }) ∷ E)
causes_more E s bytes a cells r =
    let e : Entry = Arrive s bytes a (record { outcome = Refused r; cells = cells }) in
    let new : List ℕ = set (causes_of E) (number_of r) (next (get_or (causes_of E) (number_of r) 0)) in
    let l : length new ≡ CAUSES = length-set (causes_of E) (number_of r) (next (get_or (causes_of E) (number_of r) 0)) ∙ length-map-range_with_len (refused_by E) 0 CAUSES in
    let m : length (causes_of (e ∷ E)) ≡ CAUSES = length-map-range_with_len (refused_by (e ∷ E)) 0 CAUSES in
    ext_get_or 0 new (causes_of (e ∷ E)) (l ∙ sym m)
    (λ n k. one_cause e E (number_of r) n (eqb (number_of r) n) refl (within r) (omega (arith, k, l))
    ∙ sym (cause_at (e ∷ E) n (omega (arith, k, l))))

-- the counters after one answer more are those of the life with that step more
pub counted_more : (E : List Entry) (s : ℕ) (bytes : List ℕ) (a : Arrival) (cells : List (ℕ × CellView)) (o : Outcome)
    → after_answer o (counts_after E) ≡ counts_after (Arrive s bytes a (record { outcome = o; cells = cells }) ∷ E)
counted_more E s bytes a cells Taken = ap (λ n. record (counts_after E) { taken = n }) (next_shown _)
counted_more E s bytes a cells Candidate = ap (λ n. record (counts_after E) { candidate = n }) (next_shown _)
counted_more E s bytes a cells Known = ap (λ n. record (counts_after E) { known = n }) (next_shown _)
counted_more E s bytes a cells (Refused r) =
    ap (λ n. record (counts_after E) { refused = n; causes = set (causes_of E) (number_of r) (next (get_or (causes_of E) (number_of r) 0)) }) (next_shown _)
    ∙ ap (λ xs. record (counts_after (Arrive s bytes a (record { outcome = Refused r; cells = cells }) ∷ E)) { causes = xs }) (causes_more E s bytes a cells r)

-- what the counters show of a cause is how often the life refused by it
pub shows_cause : (E : List Entry) (k : Counts) (r : Refusal) → k ≡ counts_after E → get_or k.causes (number_of r) 0 ≡ refused_as (is_cause (number_of r)) E
shows_cause E k r e = ap (λ (x : Counts). get_or x.causes (number_of r) 0) e ∙ cause_at E (number_of r) (within r)
