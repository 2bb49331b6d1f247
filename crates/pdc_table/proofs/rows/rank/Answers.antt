use Rattle.std.proofs.Common.{ℕ, rules, ltb}
use Rattle.std.proofs.lemmas.List.Sorted.{IsPartitionPoint-from_clause, IsPartitionedBy-ltb}
use Rattle.pdc_table.proofs.RingRows.{numbers_do_not_fall, point_is_rank}
use Rattle.pdc_table.proofs.rows.rank.Goals as goal

pub returns-clause-rank : goal.returns-clause-rank
returns-clause-rank c =
    point_is_rank c.args.instants.now c.args.instant c.partition_point.result
    (IsPartitionPoint-from_clause (λ (n : ℕ). ltb n c.args.instant) c.args.instants.now c.partition_point.result
    c.partition_point.ensures.partitioned
    (IsPartitionedBy-ltb (λ (n : ℕ). n) c.args.instants.now c.args.instant (numbers_do_not_fall c.numbers_rise.ensures 0 c.args.instants.now c.requires))
    (λ a r f h. search rules))
    c.partition_point.ensures.bound
