use Rattle.std.proofs.Common.{rules, ltb}
use Rattle.std.proofs.lemmas.List.Sorted.{IsPartitionPoint-from_clause, IsPartitionedBy-ltb}
use Rattle.pdc_table.specs.pdc_open_row.Views.{OpenRowView, blank_row}
use Rattle.try_script.proofs.Places.{rows_do_not_fall, point_is_place}
use Rattle.try_script.proofs.rows.place.Goals as goal

pub returns-clause-place : goal.returns-clause-place
returns-clause-place c =
    point_is_place c.args.rows.now c.args.instant c.partition_point.result
    (IsPartitionPoint-from_clause (λ (r : OpenRowView). ltb r.instant c.args.instant) c.args.rows.now c.partition_point.result
    c.partition_point.ensures.partitioned
    (IsPartitionedBy-ltb (λ (r : OpenRowView). r.instant) c.args.rows.now c.args.instant (rows_do_not_fall 0 c.args.rows.now c.requires))
    (λ a r f h. search rules))
    c.partition_point.ensures.bound (blank_row 0 0 0)
