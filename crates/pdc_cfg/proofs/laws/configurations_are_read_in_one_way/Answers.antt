use Rattle.pdc_cfg.proofs.Configs.{same_config}
use Rattle.pdc_cfg.proofs.Faults.{one_fault, no_payload_fault, one_first_fault, no_first_fault}
use Rattle.pdc_cfg.proofs.laws.configurations_are_read_in_one_way.Goals as goal

pub returns-clause-same : goal.returns-clause-same
returns-clause-same c = same_config c.words_are_their_bytes.ensures c.parts_keep_their_words.ensures

pub returns-clause-fault : goal.returns-clause-fault
returns-clause-fault c = one_fault c.parts_keep_their_words.ensures

pub returns-clause-apart : goal.returns-clause-apart
returns-clause-apart c = no_payload_fault c.parts_keep_their_words.ensures

pub returns-clause-frame_fault : goal.returns-clause-frame_fault
returns-clause-frame_fault c = one_first_fault c.parts_keep_their_words.ensures

pub returns-clause-frame_apart : goal.returns-clause-frame_apart
returns-clause-frame_apart c = no_first_fault c.parts_keep_their_words.ensures
