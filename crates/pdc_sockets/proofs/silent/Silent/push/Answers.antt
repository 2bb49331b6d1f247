use Rattle.std.proofs.Common.{◌∙◌, ◌++◌, ◌∷◌, [], ap}
use Rattle.std.proofs.Math.Logic.{∥∥₁_map}
use Rattle.pdc_sockets.proofs.OneMore.{all_push}
use Rattle.pdc_sockets.proofs.silent.Silent.push.Goals as goal

pub invariant_of-self-2 : goal.invariant_of-self-2
invariant_of-self-2 g c = record {
  silent = ∥∥₁_map c.args.self.now.silent (λ all. all_push (λ source. g.S.Source.told source []) c.args.self.now.sources.items c.push_reserved.new.self.items c.args.source (c.push_reserved.ensures.items ∙ ap (λ l. l ++ c.args.source ∷ []) c.make_room.ensures.items) all c.requires);
}
