-- Why a row was not published, and what is handed back.
use Rattle.std.specs.Prelude.{◌≡◌}
use Rattle.pdc_row.specs.RowView.{RowView, row_view}
use Rattle.pdc_publisher.specs.declared.fault.PublishFault.{PublishFault}
use Rattle.pdc_publisher.specs.declared.fault.PublishFault.TheVariants.{NoMemory, Device}

-- the device of the mark failed
abbrev pub IsDevice : PublishFault → Type 0
IsDevice (NoMemory row) = ⊥
IsDevice Device = Unit {0}

-- where memory was wanted, this row is handed back
abbrev pub HandsBack : RowView → PublishFault → Type 0
HandsBack row (NoMemory held) = row_view held ≡ row
HandsBack row Device = Unit {0}
