use Rattle.pdc_align.proofs.Arrivals.{answers_agree}
use Rattle.pdc_align.proofs.state_laws.answers_agree.Goals as goal

pub returns : goal.returns
returns c g E s i cells are = answers_agree g E s i cells are
