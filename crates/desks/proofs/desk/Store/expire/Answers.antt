use Rattle.agreement.specs.Logs.{log_of}
use Rattle.desks.proofs.desk.Store.expire.Goals as goal

pub returns : goal.returns
returns g c = c.expire.ensures (log_of g.P.Log c.args.self.now.log)
