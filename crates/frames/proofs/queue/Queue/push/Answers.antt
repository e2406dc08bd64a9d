use Rattle.std.proofs.Common.{arith}
use Rattle.frames.proofs.Rings.{in_ring-push}
use Rattle.frames.proofs.queue.Queue.push.Goals as goal

pub returns : goal.returns
returns c = in_ring-push c.args.self.now.ring c.args.grant (omega (arith, c.requires))
