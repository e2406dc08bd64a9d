use Rattle.std.proofs.Common.{◌≡◌, map, vec_items, arith}
use Rattle.std.proofs.lemmas.Grind.{common_steps}
use Rattle.limits.specs.Refusals.{told}
use Rattle.frames.specs.Bells.{answers, leaves}
use Rattle.frames.proofs.Governing.{governed}
use Rattle.frames.proofs.running.run.Goals as goal

pub returns-clause-governed : goal.returns-clause-governed
returns-clause-governed g c =
    let f = g.F.Frame.bells c.args.frame.now in
    let cs = c.args.calls.now in
    let said : map told (vec_items c.loop-call.given) ≡ answers f cs = grind (arith, common_steps) in
    let left_so : g.F.Frame.bells c.loop-call.frame ≡ leaves f cs = grind (arith, common_steps) in
    λ fresh. rw (said, left_so) (governed f fresh (g.met.F.Frame.ruled c.args.frame.now) cs)
