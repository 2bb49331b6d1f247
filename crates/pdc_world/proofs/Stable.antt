-- What cannot fail to hold of numbers that rise, and of each element of a list, holds.
use Rattle.std.proofs.Common.{[], ◌∷◌, List, ℕ}
use Rattle.pdc_world.proofs.HeadlineNames.{AllByRecursion, AreRising, Rises}
use Rattle.pdc_world.proofs.Told.{CannotFail, holds, is_below, so_does}

pub rising : (low : ℕ) (ns : List ℕ) → CannotFail (Rises low ns) → Rises low ns
rising low [] k = tt
rising low (n ∷ ns) k = (holds (is_below low n) (so_does (λ r. r.0) k), rising n ns (so_does (λ r. r.1) k))

pub all_rising : (ns : List ℕ) → CannotFail (AreRising ns) → AreRising ns
all_rising [] k = tt
all_rising (n ∷ ns) k = rising n ns k

pub each : {A : Type 0} (P : A → Type 0) → ((x : A) → CannotFail (P x) → P x) → (xs : List A) → CannotFail (AllByRecursion P xs) → AllByRecursion P xs
each P f [] k = tt
each P f (x ∷ xs) k = (f x (so_does (λ a. a.0) k), each P f xs (so_does (λ a. a.1) k))
