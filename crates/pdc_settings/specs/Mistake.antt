-- What is wrong about a key in front of all tables, where it is refused.
use Rattle.std.specs.Prelude.{Option, Some, None}
use Rattle.toml.specs.Data.{Data}
use Rattle.pdc_keys.specs.declared.unknown.TableName.TheVariants.{Top}
use Rattle.pdc_keys.specs.declared.wanted.Wanted.{Wanted}
use Rattle.pdc_settings.specs.declared.mistake.Mistake.{Mistake}
use Rattle.pdc_settings.specs.declared.mistake.Mistake.TheVariants.{Missing, OutOfRange}

-- it is missing, or what stands at it is out of its range
abbrev pub at_top : Option Data → Wanted → Mistake
at_top None wanted = Missing Top wanted
at_top (Some value) wanted = OutOfRange Top wanted
