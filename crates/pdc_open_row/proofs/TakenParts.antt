-- Whether each required stream was taken, eight streams at a step.
use Rattle.std.proofs.Common.{◌≡◌, ℕ, ◌+◌, ◌≤◌, Bool, true, false, not, ◌&&◌, ◌||◌, List, [], ◌∷◌, length, take, drop, get_or, refl, sym, ◌∙◌, ap, arith, zero, suc, inl, inr, add-one, drop-cons, ◌<◌}
use Rattle.std.proofs.lemmas.Bool.{cases_lt}
use Rattle.std.proofs.lemmas.List.{drop_all, get_or_default, get_or_past}
use Rattle.pdc_open_row.specs.Due.{all_taken}

-- a stream that is not there is not waited for
or_true : (b : Bool) → (b || true) ≡ true
or_true true = refl
or_true false = refl

none_left : (rs : List Bool) → all_taken rs [] ≡ true
none_left [] = refl
none_left (r ∷ rs) = refl

pub taken_step : (rs ts : List Bool) (i : ℕ) → i < length rs → all_taken (drop i rs) (drop i ts) ≡ (not (get_or rs i false) || get_or ts i true) && all_taken (drop (i + 1) rs) (drop (i + 1) ts)
taken_step rs ts i h = elim (cases_lt i (length ts)) [
  | inl k ↦ rw (add-one, drop-cons rs i false, drop-cons ts i true) refl
  | inr k ↦ rw (drop_all i ts k, drop_all (i + 1) ts (omega arith), get_or_past ts i true k, none_left (drop i rs), none_left (drop (i + 1) rs), or_true (not (get_or rs i false))) refl
]

and_again : (a b c : Bool) → (a && b) && c ≡ a && (b && c)
and_again true b c = refl
and_again false b c = refl

and_true : (a : Bool) → (a && true) ≡ a
and_true true = refl
and_true false = refl

pub taken_cut : (n : ℕ) (rs ts : List Bool) → n ≤ length rs → n ≤ length ts → all_taken rs ts ≡ (all_taken (take n rs) (take n ts) && all_taken (drop n rs) (drop n ts))
taken_cut zero rs ts h k = refl
taken_cut (suc n) [] ts h k = absurd (omega arith)
taken_cut (suc n) (r ∷ rs) [] h k = absurd (omega arith)
taken_cut (suc n) (r ∷ rs) (t ∷ ts) h k =
    ap (λ b. (not r || t) && b) (taken_cut n rs ts (omega arith) (omega arith))
    ∙ sym (and_again (not r || t) (all_taken (take n rs) (take n ts)) (all_taken (drop n rs) (drop n ts)))

-- what the two parts say is what the whole says
pub taken_parts : (n : ℕ) (b c : Bool) (rs ts rf tf rb tb : List Bool) → n ≤ length rs → n ≤ length ts → rf ≡ take n rs → tf ≡ take n ts → rb ≡ drop n rs → tb ≡ drop n ts → b ≡ all_taken rf tf → c ≡ all_taken rb tb → (b && c) ≡ all_taken rs ts
taken_parts n b c rs ts rf tf rb tb h k fr ft br bt e f = rw (e, f, fr, ft, br, bt) (sym (taken_cut n rs ts h k))

-- the streams below this one, one after the other
abbrev pub taken_to : ℕ → List Bool → List Bool → Bool
taken_to zero rs ts = true
taken_to (suc n) rs ts = taken_to n rs ts && (not (get_or rs n false) || get_or ts n false)

taken_from : (n : ℕ) (rs ts : List Bool) → n ≤ length rs → n ≤ length ts → (taken_to n rs ts && all_taken (drop n rs) (drop n ts)) ≡ all_taken rs ts
taken_from zero rs ts h k = refl
taken_from (suc n) rs ts h k =
    and_again (taken_to n rs ts) (not (get_or rs n false) || get_or ts n false) (all_taken (drop (suc n) rs) (drop (suc n) ts))
    ∙ ap (λ b. taken_to n rs ts && ((not (get_or rs n false) || b) && all_taken (drop (suc n) rs) (drop (suc n) ts))) (get_or_default ts n false true (omega arith))
    ∙ ap (λ m. taken_to n rs ts && ((not (get_or rs n false) || get_or ts n true) && all_taken (drop m rs) (drop m ts))) {x = suc n} {y = n + 1} (omega arith)
    ∙ ap (λ b. taken_to n rs ts && b) (sym (taken_step rs ts n (omega arith)))
    ∙ taken_from n rs ts (omega arith) (omega arith)

pub eight_taken : (rs ts : List Bool) → length rs ≡ 8 → length ts ≡ 8 → taken_to 8 rs ts ≡ all_taken rs ts
eight_taken rs ts h k =
    sym (and_true (taken_to 8 rs ts))
    ∙ ap (λ xs. taken_to 8 rs ts && all_taken xs (drop 8 ts)) (sym (drop_all 8 rs (omega arith)))
    ∙ taken_from 8 rs ts (omega arith) (omega arith)
