use Rattle.rules.specs.Layers.{layered}
use Rattle.rules.proofs.Laying.{laid_exactly}
use Rattle.rules.proofs.layer.Layer.new.Goals as goal

pub returns-clause-keeps : goal.returns-clause-keeps
returns-clause-keeps g c =
    let m = g.R.Rule.meaning c.args.below in
    laid_exactly (g.T.LimitTally.numbers c.args.limit) m (layered (g.T.Tally.own c.new.result) m) (c.new.ensures.laid m (g.met.R.Rule.order c.args.below)) c.new.ensures.keeps
