use Rattle.std.proofs.Common.{◌≡◌, refl}
use Rattle.pdc_table.specs.Closing.{counter}
use Rattle.pdc_table.specs.Content.{new_content}
use Rattle.pdc_table.specs.Histories.{ticks_since_take}
use Rattle.pdc_table.proofs.Follows.{of_told}
use Rattle.pdc_table.proofs.laws.ages_are_ticks.Goals as goal

pub returns : goal.returns
returns c window columns lanes floor calls i h =
    of_told c.numbers_rise.ensures (new_content window columns lanes floor) calls i refl tt h (λ row. row.age ≡ counter (ticks_since_take (new_content window columns lanes floor) calls i)) (λ row told. told.age)
