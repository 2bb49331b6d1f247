use Rattle.std.proofs.Common.{◌≡◌, ◌≢◌, ℕ, ◌<◌, ◌≤◌, ◌⊎◌, inl, inr, max, Bool, true, false, ◌||◌, ltb, length, slice_index, refl, ap, ◌∙◌, arith, get_or-set_other, get_or-set_same, below_more, length-set}
use Rattle.std.proofs.lemmas.Bool.{cases_lt}
use Rattle.std.proofs.lemmas.Bool.Decides.{nat_tests}
use Rattle.std.proofs.lemmas.List.{get_or_past}
use Rattle.pdc_mark.proofs.greater.raised_each.Goals as goal

not_either : (a : Bool) (x y : ℕ) → (a || ltb x y) ≡ false → (a ≡ false) × (y ≤ x)
not_either true x y kept = absurd cc
not_either false x y kept = (refl, not_below x y kept)
  where
    not_below : (x y : ℕ) → ltb x y ≡ false → y ≤ x
    not_below x y kept = grind (arith, nat_tests)

either : (a : Bool) (x y : ℕ) → (a || ltb x y) ≡ true → (a ≡ true) ⊎ (x < y)
either true x y changed = inl refl
either false x y changed = inr (below x y changed)
  where
    below : (x y : ℕ) → ltb x y ≡ true → x < y
    below x y changed = grind (arith, nat_tests)

pub loop-i-preserved : goal.loop-i-preserved
loop-i-preserved c =
    let xs = c.loop-i.raised in
    let i = c.loop-i.i in
    let known = c.loop-i.invariant in
    let within : i < length xs = omega (arith, known.size, c.loop-i-test.true) in
    let here : c.max.result ≡ max (slice_index c.args.counts.now i) (slice_index c.args.others.now i) = c.max.ensures ∙ ap (λ n. max n (slice_index c.args.others.now i)) (known.to_do i (omega arith)) in
    record {
      size = simp length-set known.size;
      done = below_more _ _ (λ k below. let ne : k ≢ i = omega arith in rw get_or-set_other (known.done k below)) (rw get_or-set_same here);
      to_do = λ k above. let ne : k ≢ i = omega arith in rw get_or-set_other (known.to_do k (omega arith));
      same = λ kept. let none = not_either c.loop-i.differs (slice_index c.args.counts.now i) (slice_index c.args.others.now i) kept in below_more _ _ (known.same none.0) none.1;
      other = λ changed.
          elim (either c.loop-i.differs (slice_index c.args.counts.now i) (slice_index c.args.others.now i) changed) [
            | inl before ↦ let found = known.other before in (found.0, omega (arith, found.1), found.2)
            | inr now ↦ (i, omega arith, now)
          ];
    }

pub returns-then-differs-clause-greater : goal.returns-then-differs-clause-greater
returns-then-differs-clause-greater c =
    let known = c.loop-i.invariant in
    record {
      size = known.size;
      each = λ k.
          elim (cases_lt k 16) [
            | inl within ↦ known.done k (omega (arith, within, c.loop-i-test.false))
            | inr past ↦ rw (get_or_past c.loop-i.raised k 0 (omega (arith, past, known.size)), get_or_past c.args.counts.now k 0 (omega (arith, past, c.told-counts)), get_or_past c.args.others.now k 0 (omega (arith, past, c.told-others)))
          ];
    }
