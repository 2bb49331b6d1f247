-- Settings of either kind, and which three a world is made of.
use Rattle.std.specs.Prelude.{◌≡◌, Option, Some, None, true, false}
use Rattle.toml.specs.Data.{Members}
use Rattle.pdc_settings.specs.Kind.{is_merger}
use Rattle.pdc_settings.specs.Settings.{IsMergerFault, IsMergerSettings, IsNodeFault, IsNodeSettings}
use Rattle.pdc_settings.specs.declared.fault.SettingsFault.{SettingsFault}
use Rattle.pdc_play.specs.declared.any.AnySettings.{AnySettings}
use Rattle.pdc_play.specs.declared.any.AnySettings.TheVariants.{Node, Merger}
use Rattle.pdc_play.specs.declared.any.Roles.{Roles}

-- the settings say this, whosever they are
abbrev pub IsAnySettings : Members → AnySettings → Type 0
IsAnySettings members (Node settings) = IsNodeSettings members settings
IsAnySettings members (Merger settings) = IsMergerSettings members settings

-- why a document is no settings, by its kind
pub record IsAnyFault (members : Members) (fault : SettingsFault) : Type 0 where
  pub node : is_merger members ≡ false → IsNodeFault members fault
  pub merger : is_merger members ≡ true → IsMergerFault members fault

-- two nodes and a merger, in this order; any other three have no roles
abbrev pub roles_of : AnySettings → AnySettings → AnySettings → Option Roles
roles_of (Node a) (Node b) (Merger m) = Some (record { a = a; b = b; m = m })
roles_of a b m = None
