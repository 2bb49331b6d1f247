-- Some of what a sink was handed, and one frame more.
use Rattle.std.proofs.Common.{◌++◌, ◌∷◌, List, [], ap, inl, inr, refl}
use Rattle.pdc_journal.specs.Among.{AreAmong}

-- one more was handed, and not taken
pub lost : {A : Type 0} (some all : List A) (x : A) → AreAmong some all → AreAmong some (all ++ x ∷ [])
lost some [] x among = inl among
lost some (y ∷ all) x among = elim among [ inl later ↦ inl (lost some all x later) | inr first ↦ inr (first.0, first.1, lost first.0 all x first.2) ]

-- one more was handed, and taken
pub kept : {A : Type 0} (some all : List A) (x : A) → AreAmong some all → AreAmong (some ++ x ∷ []) (all ++ x ∷ [])
kept some [] x among = inr ([], ap (λ xs. xs ++ x ∷ []) among, refl)
kept some (y ∷ all) x among = elim among [
  | inl later ↦ inl (kept some all x later)
  | inr first ↦ inr (first.0 ++ x ∷ [], ap (λ xs. xs ++ x ∷ []) first.1, kept first.0 all x first.2)
]
