use Rattle.std.proofs.Common.{◌++◌, ◌∷◌, [], List, OnOk, subst, ℕ}
use Rattle.pdc_pipe.proofs.outlet.Outlet.send_layout.Goals as goal

pub returns-clause-ok : goal.returns-clause-ok
returns-clause-ok g c =
    subst
    (λ (bytes : List ℕ). OnOk c.send.result ((before : _) (given : List (List ℕ)) → g.Self.Sink.took before c.args.self.now given → g.Self.Sink.took before c.send.new.self (given ++ bytes ∷ [])))
    c.as_slice.ensures.value c.send.ensures.ok
