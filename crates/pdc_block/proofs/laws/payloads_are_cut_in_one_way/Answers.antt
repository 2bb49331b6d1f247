use Rattle.pdc_block.proofs.Cuts.{same_cut, length-cut, cut_of_bytes}
use Rattle.pdc_block.proofs.laws.payloads_are_cut_in_one_way.Goals as goal

pub returns-clause-same : goal.returns-clause-same
returns-clause-same c = same_cut c.words_are_their_bytes.ensures c.parts_keep_their_words.ensures

pub returns-clause-size : goal.returns-clause-size
returns-clause-size c = length-cut

pub returns-clause-found : goal.returns-clause-found
returns-clause-found c = cut_of_bytes c.words_are_their_bytes.ensures c.parts_keep_their_words.ensures
