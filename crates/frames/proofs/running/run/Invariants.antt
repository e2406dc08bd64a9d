use Rattle.std.proofs.Common.{map, vec_items, vec_len, vec_capacity}
use Rattle.limits.specs.Refusals.{told}
use Rattle.frames.proofs.CallByCall.{Running}
use Rattle.frames.proofs.running.run.Given as goal

abbrev pub invariant-loop-call : goal.invariant-loop-call
invariant-loop-call g l = Running (g.F.Frame.bells l.initial.frame) l.calls l.call-index (map told (vec_items l.given)) (vec_len l.given) (vec_capacity l.given) (g.F.Frame.bells l.frame)
