-- The next row to be popped is above all before it.
use Rattle.pdc_life.proofs.Names.{[], ◌*◌, ◌++◌, ◌+◌, ◌<◌, ◌∙◌, ◌∷◌, AllByRecursion, ap, arith, greatest, List, NextIsAbove, Pop, popped, Rises, RisingLaws, row_instants, RowView, Some, subst, waiting, ℕ}
use Rattle.pdc_life.proofs.LifeLaws.{instants_append, rows_come_out_once, rows_rise}
use Rattle.pdc_life.proofs.Tagged.{popped_low}

last_holds : (P : ℕ → Type 0) (ns : List ℕ) (n : ℕ) → AllByRecursion P (ns ++ n ∷ []) → P n
last_holds P [] n a = a.0
last_holds P (m ∷ ns) n a = last_holds P ns n a.1

module _ (R : RisingLaws) where
  pub next_is_above : NextIsAbove
  next_is_above g E row run =
      let before : List ℕ = row_instants (popped E) in
      let rest : List RowView = waiting (Pop (Some row) ∷ E) in
      let whole : Rises g.floor (row_instants ((popped E ++ row ∷ []) ++ rest)) =
      subst (λ (rows : List RowView). Rises g.floor (row_instants rows)) (rows_come_out_once g (Pop (Some row) ∷ E) run.ticked) (rows_rise R g (Pop (Some row) ∷ E) run.ticked) in
      let apart : Rises g.floor ((before ++ row.instant ∷ []) ++ row_instants rest) =
      subst (λ (ns : List ℕ). Rises g.floor ns)
      (instants_append (popped E ++ row ∷ []) rest ∙ ap (λ (ns : List ℕ). ns ++ row_instants rest) (instants_append (popped E) (row ∷ []))) whole in
      let front : Rises g.floor (before ++ row.instant ∷ []) = R.rises_front g.floor (before ++ row.instant ∷ []) (row_instants rest) apart in
      let above : greatest g.floor before < row.instant = (R.rises_back g.floor before (row.instant ∷ []) front).0 in
      let low : row.instant < 4294967296 * g.output.rate =
      last_holds (λ i. i < 4294967296 * g.output.rate) before row.instant
      (subst (λ (ns : List ℕ). AllByRecursion (λ i. i < 4294967296 * g.output.rate) ns) (instants_append (popped E) (row ∷ [])) (popped_low g (Pop (Some row) ∷ E) run.ticked run.sound)) in
      (omega (arith, above, R.greatest_ge g.floor before), R.below_higher (greatest g.floor before + 1) row.instant before (omega (arith, above)) (R.below_greatest g.floor before), low)
