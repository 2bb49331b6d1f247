use Rattle.std.proofs.Common.{◌≡◌, ℕ, ◌∙◌, ◌&&◌, IsTrue, List, ap, subst, sym, arith, None, Some}
use Rattle.std.specs.Prelude.{nat_le, nat_lt}
use Rattle.std.specs.List.{list_all}
use Rattle.toml.specs.View.{items_view}
use Rattle.pdc_frame.specs.declared.limits.TheConstants.{MAX_ID}
use Rattle.pdc_settings.specs.Entries.{each_of, source_at}
use Rattle.pdc_settings.proofs.Tables.{each-taken, none-taken, on_err, passes-push}
use Rattle.pdc_settings.proofs.read_merger.read_sources.Goals as goal

pub returns-in_err-read_source-clause-none : goal.returns-in_err-read_source-clause-none
returns-in_err-read_source-clause-none c =
    on_err c.from_residual.result (each_of source_at (items_view c.args.values.now) ≡ None)
    (none-taken source_at c.args.values.now c.loop-value.value-index c.value-item.result (omega (arith, c.loop-value-test.true)) c.value-item.is c.in_err-read_source.ensures.none)

pub loop-value-preserved : goal.loop-value-preserved
loop-value-preserved c = record {
  len = omega (arith, c.push.ensures.len, c.loop-value.invariant.len);
  end = c.loop-value.invariant.end;
  each = each-taken source_at c.args.values.now c.loop-value.value-index c.loop-value.sources.items c.value-item.result c.in_ok-read_source.field-0 (omega (arith, c.loop-value-test.true)) c.value-item.is c.loop-value.invariant.each
      c.in_ok-read_source.ensures.value
      ∙ ap (λ (sources : List ℕ). Some sources) (sym c.push.ensures.items);
  ids = subst (λ (sources : List ℕ). IsTrue (list_all (λ id. nat_lt 0 id && nat_le id MAX_ID) sources)) (sym c.push.ensures.items)
      (passes-push (λ id. nat_lt 0 id && nat_le id MAX_ID) c.loop-value.sources.items c.in_ok-read_source.field-0 c.loop-value.invariant.ids c.in_ok-read_source.ensures.is_id);
}
