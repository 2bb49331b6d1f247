use Rattle.pdc_life.proofs.CellData.{cells_are_data}
use Rattle.pdc_life.proofs.Genuine.{blocks_are_genuine, cells_were_given}
use Rattle.pdc_life.proofs.laws.blocks_are_genuine.Goals as goal

pub returns-clause-genuine : goal.returns-clause-genuine
returns-clause-genuine c g E n i s b k h = blocks_are_genuine g E n i s b k h

pub returns-clause-given : goal.returns-clause-given
returns-clause-given c g E s n i cell h = cells_were_given g E s n i cell h

pub returns-clause-data : goal.returns-clause-data
returns-clause-data c kind g E s n i f cell life in_force given =
    cells_are_data c.configurations_are_read_in_one_way.ensures.same c.bodies_are_their_words.ensures.found c.bodies_are_their_words.ensures.words kind g E s n i f cell life in_force given
