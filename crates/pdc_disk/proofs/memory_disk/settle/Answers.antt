use Rattle.std.proofs.Common.{◌≡◌, Bool, true, List, length, replicate, get_or, subst, sym, rules}
use Rattle.pdc_disk.proofs.Bytes.{get_or-replicate_true}
use Rattle.pdc_disk.proofs.memory_disk.settle.Goals as goal

pub returns : goal.returns
returns c i =
    let all : c.fill.new.self ≡ replicate (length c.args.settled.now) true = search (rules, c.fill.ensures.after) in
    subst (λ (flags : List Bool). get_or flags i true ≡ true) (sym all) (get_or-replicate_true (length c.args.settled.now) i)
