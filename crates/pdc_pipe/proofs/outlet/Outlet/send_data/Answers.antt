use Rattle.std.proofs.Common.{rules, List, OnOk, [], ◌∷◌, ◌++◌, subst, ℕ}
use Rattle.pdc_pipe.proofs.outlet.Outlet.send_data.Goals as goal

pub returns-clause-ok : goal.returns-clause-ok
returns-clause-ok g c =
    let s = c.show.ensures.shows in
    subst (λ (bytes : List ℕ). OnOk c.show.result ((before : g.row.Self.Denot) (given : List (List ℕ)) → g.Self.Sink.took before c.args.self.now given → g.Self.Sink.took before c.show.new.to (given ++ bytes ∷ [])))
    s.reads (search (rules, s.met, s.shows, s.leaves))
