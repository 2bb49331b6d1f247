use Rattle.std.proofs.Common.{arith, refl, subst}
use Rattle.std.specs.Prelude.{IfOk, IsOk, IsOkAnd, Ok, Err}
use Rattle.std.specs.declared.result.Result.{Result}
use Rattle.pdc_life.specs.pdc_frame.Bytes.{AreBytes}
use Rattle.pdc_life.specs.pdc_block.Block.{IsBody, words_in, words_of}
use Rattle.pdc_life.specs.pdc_block.declared.block.Block.{Block}
use Rattle.pdc_life.specs.pdc_block.declared.fault.BodyFault.{BodyFault}
use Rattle.pdc_arrival.proofs.own_block.body.Goals as goal

is_ok : (P : Block → Type 0) (r : Result Block BodyFault) → IsOkAnd r P → IsOk r
is_ok P (Ok block) h = refl
is_ok P (Err fault) h = absurd h

pub unwrap-requires : goal.unwrap-requires
unwrap-requires c =
    let fits : AreBytes c.args.bytes.now = λ i. omega (arith, c.type_inv.bytes i) in
    is_ok _ c.read_body.result (c.read_body.ensures.only (words_in c.args.bytes.now) (c.bodies_are_their_words.ensures.found c.args.shape c.args.bytes.now fits c.requires))

pub returns-clause-words : goal.returns-clause-words
returns-clause-words c =
    let fits : AreBytes c.args.bytes.now = λ i. omega (arith, c.type_inv.bytes i) in
    let body : IsBody c.args.shape c.args.bytes.now (words_of c.unwrap.result) =
    subst (λ (r : Result Block BodyFault). IfOk r (λ (block : Block). IsBody c.args.shape c.args.bytes.now (words_of block))) c.unwrap.ensures c.read_body.ensures.found in
    c.bodies_are_their_words.ensures.only c.args.shape c.args.bytes.now (words_of c.unwrap.result) fits body
