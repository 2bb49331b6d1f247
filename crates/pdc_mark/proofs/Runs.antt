-- A write and the sync after it, as the calls of a disk tell of them. The disk was settled before.
use Rattle.std.proofs.Common.{◌≡◌, ℕ, ◌+◌, ◌<◌, Bool, List, length, sym, subst, ◌∙◌}
use Rattle.pdc_disk.specs.Disk.{written, AllSettled, IsTorn, Leaves, StaySettled, StaySettledBut}
use Rattle.pdc_mark.proofs.Images.{torn_image}

-- `told` is the place that the call was given
module _ (old new : List ℕ) (was_settled is_settled : ℕ → Bool) (told at n : ℕ) (is : told ≡ at) (inside : at + n < length old) (all : AllSettled was_settled) (torn : IsTorn old told n new) (stay : StaySettledBut told n was_settled is_settled) where
  pub torn_there : IsTorn old at n new
  torn_there = subst (λ p. IsTorn old p n new) is torn

  stay_there : StaySettledBut at n was_settled is_settled
  stay_there = subst (λ p. StaySettledBut p n was_settled is_settled) is stay

  -- after the write, done or failed
  pub leaves_torn : Leaves new is_settled (IsTorn old at n)
  leaves_torn = torn_image old new at n torn_there inside was_settled is_settled all stay_there

  -- after the sync, done or failed
  pub leaves_synced : (synced : List ℕ) (now_settled : ℕ → Bool) → synced ≡ new → StaySettled is_settled now_settled → Leaves synced now_settled (IsTorn old at n)
  leaves_synced synced now_settled same still =
      torn_image old synced at n (subst (λ (bytes : List ℕ). IsTorn old at n bytes) (sym same) torn_there) inside was_settled now_settled all (λ i out before. still i (stay_there i out before))

  pub torn_synced : (synced : List ℕ) → synced ≡ new → IsTorn old at n synced
  torn_synced synced same = subst (λ (bytes : List ℕ). IsTorn old at n bytes) (sym same) torn_there

  pub made_synced : (synced bytes : List ℕ) → synced ≡ new → new ≡ written old told bytes → synced ≡ written old at bytes
  made_synced synced bytes same made = same ∙ subst (λ p. new ≡ written old p bytes) is made
