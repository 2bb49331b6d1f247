-- A request that was refused.
use Rattle.std.proofs.Common.{◌≡◌, ℕ, Err, Ok, Result, inl, inr, refl}
use Rattle.std.specs.Prelude.{◌⊎◌, OnErr}
use Rattle.pdc_hub.specs.pdc_memory.Asking.{SomeWasRefused, WasRefused}

-- Of two requests one was, where the result is no value.
pub either_refused : {A E : Type 0} (m n : ℕ) (r : Result A E) → ((x : A) → r ≡ Ok x → ⊥) → OnErr r (WasRefused m ⊎ WasRefused n) → SomeWasRefused
either_refused m n (Ok x) none h = absurd (none x refl)
either_refused m n (Err e) none (inl h) = ∣ (m, h) ∣₁
either_refused m n (Err e) none (inr h) = ∣ (n, h) ∣₁
