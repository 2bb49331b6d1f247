use Rattle.std.proofs.Common.{◌≤◌, List, ℕ, ap, length, subst, sym, ◌∙◌, drop}
use Rattle.pdc_session.proofs.Following.{skipped}
use Rattle.pdc_session.proofs.unread.Unread.skip.Goals as goal

pub returns : goal.returns
returns g c = skipped c.self.inside.piece.items c.self.inside.begin c.self.inside.end c.args.count c.self.invariant.begin
    (subst (λ (xs : List ℕ). c.args.count ≤ length xs) (sym c.self.view_is) c.requires)
    ∙ ap (drop c.args.count) c.self.view_is
