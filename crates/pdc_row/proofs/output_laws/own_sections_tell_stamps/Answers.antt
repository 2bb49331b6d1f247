use Rattle.pdc_row.proofs.Stamps.{own_sections_tell_stamps}
use Rattle.pdc_row.proofs.output_laws.own_sections_tell_stamps.Goals as goal

pub returns : goal.returns
returns c id other m n start change start' change' a b d e h = own_sections_tell_stamps id other m n start change start' change' a b d e h
