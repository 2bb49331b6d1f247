-- A life has no more changes than there are change numbers.
use Rattle.std.proofs.Common.{◌≡◌, ℕ, ◌<◌, ◌≤◌, Bool, true, false, List, [], ◌∷◌, ap, arith, cond, filter, length, ltb, refl, rules, sym, ◌∙◌}
use Rattle.pdc_life.specs.Answer.{has_change, ready_columns}
use Rattle.pdc_life.specs.Given.{Given}
use Rattle.pdc_life.specs.Life.{Entry, Arrive, Tick, TickAnswer, Pop, changes, is_adoption}
use Rattle.pdc_life.specs.Run.{IsTicked}

-- one more where it is counted, and it is counted only below the greatest number
grow : (b : Bool) (e : Entry) (es : List Entry) → length es ≤ 4294967295 → (b ≡ true → length es < 4294967295) → length (cond b (e ∷ es) es) ≤ 4294967295
grow true e es h k = omega (arith, k refl)
grow false e es h k = h

adopts : (b : Bool) (cs : List ℕ) → ltb 0 (length (cond b cs [])) ≡ true → b ≡ true
adopts true cs h = refl
adopts false cs h = h

below : (n : ℕ) → ltb n 4294967295 ≡ true → n < 4294967295
below n h = search rules

pub changes_fit : (g : Given) (E : List Entry) → IsTicked g E → changes E ≤ 4294967295
changes_fit g [] t = omega arith
changes_fit g (Arrive s bytes arrival answer ∷ E) t = changes_fit g E t
changes_fit g (Pop row ∷ E) t = changes_fit g E t.1
changes_fit g (Tick now counts answer ∷ E) t =
    let adopted : answer.adopted ≡ cond (has_change E) (ready_columns g E counts) [] = ap (λ (a : TickAnswer). a.adopted) t.0 in
    grow (ltb 0 (length answer.adopted)) (Tick now counts answer) (filter is_adoption E) (changes_fit g E t.1)
    (λ h. below (changes E) (adopts (has_change E) (ready_columns g E counts) (sym (ap (λ (cs : List ℕ). ltb 0 (length cs)) adopted) ∙ h)))
