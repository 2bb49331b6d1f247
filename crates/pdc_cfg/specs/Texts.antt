-- The text of each fault: its code and its name.
use Rattle.std.specs.Prelude.{ℕ, List, codes}
use Rattle.pdc_cfg.specs.declared.fault.CfgFault.{CfgFault}
use Rattle.pdc_cfg.specs.declared.fault.CfgFault.TheVariants as cfg

-- why a frame is no configuration, by its code and name
abbrev pub cfg_fault : CfgFault → List ℕ
cfg_fault cfg.WrongKind = codes "C1 WrongKind"
cfg_fault cfg.Cut = codes "C2 Cut"
cfg_fault cfg.TooMany = codes "C3 TooMany"
cfg_fault cfg.FloatFormat = codes "C4 FloatFormat"
