use Rattle.std.proofs.Common.{◌∙◌}
use Rattle.pdc_cfg.specs.Shape.{word_count_of}
use Rattle.pdc_block.proofs.Bodies.{word_in}
use Rattle.pdc_block.proofs.body.Body.word.Goals as goal

pub returns : goal.returns
returns c = c.read_word.ensures ∙ word_in c.args.self.now.bytes.now c.args.place (word_count_of c.args.self.now.shape) c.args.self.now.whole c.requires
