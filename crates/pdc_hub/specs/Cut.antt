-- Which ledger it is, and into how many parts its shares are cut.
use Rattle.std.specs.Prelude.{ℕ}

pub record Cut : Type 0 where
  pub name : ℕ
  pub parts : ℕ

-- no ledger
abbrev pub no_cut : Cut
no_cut = record { name = 0; parts = 0 }
