use Rattle.std.proofs.Common.{◌∙◌}
use Rattle.pdc_replay.specs.Passed.{soc_in}
use Rattle.pdc_replay.proofs.Alike.{layout_of_life}
use Rattle.pdc_replay.proofs.steps.compare_layout.Goals as goal

pub returns : goal.returns
returns g c = record {
  as_recorded = λ g' E stands. layout_of_life c.compare_wire.result c.args.recorded.now c.deref.result.now g' E
      c.soc_of.result (soc_in c.args.recorded.now) (c.deref.ensures.value ∙ c.in_ok-write_layout.ensures.layout g' E stands)
      c.soc_of.ensures c.compare_wire.ensures;
}
