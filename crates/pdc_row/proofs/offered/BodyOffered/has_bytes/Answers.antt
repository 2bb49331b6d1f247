use Rattle.std.proofs.Common.{◌∙◌}
use Rattle.pdc_block.specs.pdc_cfg.Shape.{word_count_of}
use Rattle.pdc_row.proofs.KeptLemmas.{same_bytes}
use Rattle.pdc_row.proofs.offered.BodyOffered.has_bytes.Goals as goal

pub returns : goal.returns
returns c =
    c.eq.ensures
    ∙ same_bytes (word_count_of c.args.self.now.shape) c.args.bytes.now c.args.self.now.bytes.now c.are_bytes.ensures c.are_bytes-2.ensures c.requires c.args.self.now.whole
