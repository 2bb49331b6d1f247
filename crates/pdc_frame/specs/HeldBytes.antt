-- What a contract sees of bytes in memory that was taken once.
use Rattle.std.specs.Prelude.{ℕ, List}

-- the bytes, and for how many there is room
pub record HeldBytesView : Type 0 where
  pub items : List ℕ
  pub capacity : ℕ
