use Rattle.pdc_session.specs.Recent.{RecentView}
use Rattle.pdc_server.specs.Stream.{AreData}
use Rattle.pdc_server.proofs.Pushes.{kept_are_data, made_alike, where_err}
use Rattle.pdc_server.proofs.remembered.Remembered.push.Goals as goal

pub invariant_of-self : goal.invariant_of-self
invariant_of-self g c = record {
  are_data = kept_are_data c.push.result g.N.Naming.stream c.args.self.now.stamp c.args.self.now.frames c.push.new.self c.args.instant c.args.bytes.now c.args.self.now.are_data c.requires c.push.ensures.later c.push.ensures.old c.push.ensures.err;
  is_layout = c.args.self.now.is_layout;
  were_data = c.args.self.now.were_data;
}

pub returns-clause-err : goal.returns-clause-err
returns-clause-err g c =
    where_err c.push.result
    (made_alike {P = λ (view : RecentView). AreData g.N.Naming.stream c.args.self.now.stamp view.frames}
    (λ frames are_data is_layout were_data. record c.args.self.now { frames = frames; are_data = are_data; is_layout = is_layout; were_data = were_data })
    c.push.new.self c.args.self.now.frames _ c.args.self.now.are_data _ c.args.self.now.is_layout _ c.args.self.now.were_data)
    c.push.ensures.err
