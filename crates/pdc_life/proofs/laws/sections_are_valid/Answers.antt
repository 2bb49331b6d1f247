use Rattle.pdc_life.proofs.Come.{held_is_section, in_force_is_section}
use Rattle.pdc_life.proofs.laws.sections_are_valid.Goals as goal

pub returns-clause-held : goal.returns-clause-held
returns-clause-held c g E n s run h = held_is_section g E n s run h

pub returns-clause-in_force : goal.returns-clause-in_force
returns-clause-in_force c g E n s run h = in_force_is_section g E n s run h
