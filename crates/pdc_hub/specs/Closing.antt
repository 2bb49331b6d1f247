-- The close of a hub.
use Rattle.std.specs.Prelude.{ℕ}
use Rattle.pdc_hub.specs.declared.hub.Hub.{Hub}

-- The name of what is set by the close of the hub: a token of this name shows that it was closed.
abbrev pub closing_of : {C N S : Type 0} {core : _} {reads : _} {naming : _} {ledgers : _} {logged : _} → Hub C N S core reads naming ledgers logged → ℕ
closing_of hub = hub.closing.id
