use Rattle.frames.proofs.Requests.{within_reach}
use Rattle.frames.proofs.line.Line.request.Goals as goal

pub returns-clause-soon : goal.returns-clause-soon
returns-clause-soon g c =
    let rule = c.args.self.now.rule in
    let least = rw c.in_ok-due.ensures.ok_part at c.in_ok-earliest.ensures.least in
    within_reach (g.met.R.Rule.late rule) (g.met.R.Rule.reached rule) c.args.t c.in_ok-due.due least
