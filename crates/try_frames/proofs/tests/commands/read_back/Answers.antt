use Rattle.std.proofs.Common.{◌≡◌, ◌∙◌, ◌++◌, ap, sym, subst}
use Rattle.pdc_frame.specs.Frame.{Fields, IsFrame, spelling_of}
use Rattle.pdc_frame.specs.Command.{command_fields}
use Rattle.try_frames.proofs.tests.commands.read_back.Goals as goal

pub unreachable-requires : goal.unreachable-requires
unreachable-requires c =
    let f : Fields = command_fields c.args.id.value c.args.soc c.args.command in
    let bytes : c.deref.result.now ≡ spelling_of f = c.deref.ensures.value ∙ c.in_ok-write_command.ensures.ok ∙ ap (λ xs. xs ++ spelling_of f) c.new-out.ensures.items in
    c.in_default.ensures.only f (subst (λ xs. IsFrame xs f) (sym bytes) c.write_command.ensures.frame)
