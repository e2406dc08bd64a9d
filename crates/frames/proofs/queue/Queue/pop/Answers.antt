use Rattle.std.proofs.Common.{◌-◌, arith}
use Rattle.frames.proofs.Rings.{in_ring-pop}
use Rattle.frames.proofs.queue.Queue.pop.Goals as goal

pub returns-then-self-gt0 : goal.returns-then-self-gt0
returns-then-self-gt0 c =
    let q = c.args.self.now in
    in_ring-pop q.ring (q.count - 1) (omega (arith, c.if-self-gt0.true))
