use Rattle.std.proofs.Common.{rules, List, OnOk, [], ◌∷◌, ◌++◌, subst, ℕ}
use Rattle.pdc_server.specs.declared.remembering_sink.RememberingSink.{RememberingSink}
use Rattle.pdc_server.proofs.remembering_sink.RememberingSinkOutlet.send_data.Goals as goal

pub returns-clause-ok : goal.returns-clause-ok
returns-clause-ok g c =
    let s = c.show-sent.ensures.shows in
    subst (λ (bytes : List ℕ). OnOk c.show-sent.result ((before : RememberingSink g.row.N.Denot g.row.K.Denot g.row.R.Denot g.N.Naming g.K.Sink) (given : List (List ℕ)) → g.K.Sink.took before.inner c.args.self.now.inner given → g.K.Sink.took before.inner c.show-sent.new.to (given ++ bytes ∷ [])))
    s.reads (search (rules, s.met, s.shows, s.leaves))
