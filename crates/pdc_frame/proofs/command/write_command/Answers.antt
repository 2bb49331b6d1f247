use Rattle.std.proofs.Common.{◌≡◌, List, ◌++◌, ℕ, subst}
use Rattle.std.specs.Prelude.{OnOk}
use Rattle.pdc_frame.specs.declared.frame.Kind.TheVariants.{CommandFrame}
use Rattle.pdc_frame.specs.Frame.{spelling_of}
use Rattle.pdc_frame.proofs.command.write_command.Goals as goal

pub returns-clause-ok : goal.returns-clause-ok
returns-clause-ok g c =
    subst (λ (payload : List ℕ). OnOk c.write_frame.result (g.B.Buffer.content c.write_frame.new.out ≡ g.B.Buffer.content c.args.out.now ++ spelling_of (record { kind = CommandFrame; version = 2; id = c.args.id.value; soc = c.args.soc; quality = 0; frac = 0; payload = payload })))
    c.cmd_bytes-payload.ensures c.write_frame.ensures.ok
