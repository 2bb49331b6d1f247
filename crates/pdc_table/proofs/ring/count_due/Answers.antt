use Rattle.std.proofs.Common.{◌≡◌, ℕ, ◌+◌, ◌%◌, ◌<◌, Bool, true, false, if◌then◌else◌, List, drop, length, get_or, sym, ◌∙◌, ap, arith, add-one, drop-cons, refl}
use Rattle.std.proofs.Math.Nat.{mod-lt}
use Rattle.std.specs.List.{prefix_len}
use Rattle.std.proofs.lemmas.List.{get_or_default}
use Rattle.pdc_open_row.specs.Due.{is_due}
use Rattle.pdc_table.specs.RingRows.{row_in, rows_in, with_ages}
use Rattle.pdc_open_row.specs.Views.{OpenRowView, at_age, blank_row}
use Rattle.pdc_open_row.specs.declared.wait_rule.WaitRule.{WaitRule}
use Rattle.pdc_table.proofs.RingAges.{aged_row}
use Rattle.pdc_table.proofs.ring.count_due.Goals as goal

-- one more open instant
prefix_step : (p : OpenRowView → Bool) (places : List OpenRowView) (window : ℕ) (is : List ℕ) (k : ℕ) → k < length is → prefix_len p (rows_in places window (drop k is)) ≡ (if p (row_in places window (get_or is k 0)) then 1 + prefix_len p (rows_in places window (drop (k + 1) is)) else 0)
prefix_step p places window is k h = rw (add-one, drop-cons is k 0) refl

goes_on : (b : Bool) (n m count total : ℕ) → n ≡ (if b then 1 + m else 0) → count + n ≡ total → b ≡ true → count + 1 + m ≡ total
goes_on true n m count total e k t = omega arith
goes_on false n m count total e k t = cc

ends : (b : Bool) (n m count total : ℕ) → n ≡ (if b then 1 + m else 0) → count + n ≡ total → b ≡ false → count ≡ total
ends true n m count total e k t = cc
ends false n m count total e k t = omega arith

due_at : (required : List Bool) (rule : WaitRule) (places : List OpenRowView) (ages : List ℕ) (window i place age : ℕ) (row : OpenRowView) (result : Bool) → 0 < window → length places ≡ window → length ages ≡ window → place ≡ i % window → row ≡ get_or places place row → age ≡ get_or ages place 0 → result ≡ is_due required rule (at_age age row) → is_due required rule (row_in (with_ages places ages) window i) ≡ result
due_at required rule places ages window i place age row result h e k v d a r =
    sym (r ∙ ap (is_due required rule) (
    ap (λ n. at_age n row) a
    ∙ ap (at_age (get_or ages place 0)) (d ∙ get_or_default places place row (blank_row 0 0 0) (omega (arith, mod-lt i h)))
    ∙ ap (λ n. at_age (get_or ages n 0) (get_or places n (blank_row 0 0 0))) v
    ∙ sym (aged_row places ages window i h e k)
    ))

pub loop-instant-preserved : goal.loop-instant-preserved
loop-instant-preserved c = record {
  counted = omega arith;
  left = goes_on _ _ _ _ _
      (prefix_step (is_due c.args.required.now c.args.rule) (with_ages c.args.rows.now.places.items c.args.rows.now.ages.items) c.args.circle.now.window c.as_slice-instant-items.result.now c.loop-instant.instant-index c.loop-instant-test.true)
      c.loop-instant.invariant.left (due_at c.args.required.now c.args.rule c.args.rows.now.places.items c.args.rows.now.ages.items c.args.circle.now.window (get_or c.as_slice-instant-items.result.now c.loop-instant.instant-index 0) c.place_of-place.result c.at.result c.item.result.now c.is_due.result
      c.args.circle.now.least c.requires.size c.requires.ages_size c.place_of-place.ensures.value c.item.ensures c.at.ensures c.is_due.ensures ∙ c.if-not-is_due.false);
}

pub returns-then-not-is_due-clause-count : goal.returns-then-not-is_due-clause-count
returns-then-not-is_due-clause-count c =
    ends _ _ _ _ _
    (prefix_step (is_due c.args.required.now c.args.rule) (with_ages c.args.rows.now.places.items c.args.rows.now.ages.items) c.args.circle.now.window c.as_slice-instant-items.result.now c.loop-instant.instant-index c.loop-instant-test.true)
    c.loop-instant.invariant.left (due_at c.args.required.now c.args.rule c.args.rows.now.places.items c.args.rows.now.ages.items c.args.circle.now.window (get_or c.as_slice-instant-items.result.now c.loop-instant.instant-index 0) c.place_of-place.result c.at.result c.item.result.now c.is_due.result
    c.args.circle.now.least c.requires.size c.requires.ages_size c.place_of-place.ensures.value c.item.ensures c.at.ensures c.is_due.ensures ∙ c.if-not-is_due.true)
    ∙ ap (λ is. prefix_len (is_due c.args.required.now c.args.rule) (rows_in (with_ages c.args.rows.now.places.items c.args.rows.now.ages.items) c.args.circle.now.window is)) c.as_slice-instant-items.ensures.value
