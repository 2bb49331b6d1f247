-- A call that is shown bytes, and lent a value.
use Rattle.std.specs.Prelude.{◌≡◌, ℕ, List}
use Rattle.std.specs.Fn.{Once}
use denote.Ref.{Bor, MutBor}

-- it may be called where these bytes are shown, and this value is lent
abbrev pub MayBeShown : {F V R : Type 0} → Once F (Bor (List ℕ) × (MutBor V × Unit {0})) (R × (MutBor V × Unit {0})) → F → List ℕ → V → Type 0
MayBeShown {F} {V} g f bytes x = (shown : Bor (List ℕ)) (lent : MutBor V) → shown.now ≡ bytes → lent.now ≡ x → g.pre f (shown, (lent, tt))

-- shown these bytes, and lent x, it may give r and leave x'
pub record ShowsAt {F V R : Type 0} (g : Once F (Bor (List ℕ) × (MutBor V × Unit {0})) (R × (MutBor V × Unit {0}))) (f : F) (bytes : List ℕ) (x : V) (r : R) (x' : V) : Type 0 where
  pub shown : Bor (List ℕ)
  pub reads : shown.now ≡ bytes
  pub lent : MutBor V
  pub shows : lent.now ≡ x
  pub left : MutBor V
  pub met : g.post f (shown, (lent, tt)) (r, (left, tt))
  pub leaves : left.now ≡ x'
