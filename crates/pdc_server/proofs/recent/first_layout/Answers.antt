use Rattle.std.proofs.Common.{refl, [], List, ℕ, subst, sym, ◌∙◌, ◌++◌, ap}
use Rattle.pdc_row.specs.Layout.{layout_fields_of, layout_wire_of}
use Rattle.pdc_frame.specs.Frame.{IsFrame}
use Rattle.pdc_server.proofs.recent.first_layout.Goals as goal

pub returns-clause-layout : goal.returns-clause-layout
returns-clause-layout c =
    let made = c.in_ok-append_layout.ensures.config in
    let bytes = c.in_ok-append_layout.ensures.ok ∙ ap (λ (xs : List ℕ). xs ++ layout_wire_of c.args.output.now c.args.start 0 [] 0) c.new-layout.ensures.items in (
      made.config,
      record {
        fields = layout_fields_of c.args.output.now c.args.start 0 [] 0;
        frame = subst (λ (xs : List ℕ). IsFrame xs (layout_fields_of c.args.output.now c.args.start 0 [] 0)) (sym bytes) c.in_ok-append_layout.ensures.frame;
        kind = refl;
        id = refl;
        spelled = made.spelled;
        time_base = made.time_base;
        rate = made.rate;
        tells = record { nominal = c.args.output.now.nominal; itself = made.own; others = []; first = made.sections; own = made.itself };
      },
    )
