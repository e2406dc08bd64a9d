use Rattle.std.proofs.Common.{refl, arith}
use Rattle.std.proofs.lemmas.Bool.Decides.{nat_tests}
use Rattle.rules.proofs.StairSteps.{stair_close, stair_free, stair_struck}
use Rattle.rules.proofs.stair_tally.StairTallyTally.after.Goals as goal

pub invariant_of-result : goal.invariant_of-result
invariant_of-result c =
    let s = c.args.self.now in
    let n = s.stair.burst in
    let p = s.stair.period in
    let free = stair_free n p s.whole _ c.args.t c.opens.ensures (omega arith) in
    let close = stair_close n p s.whole c.args.t s.stair.some free in
    record { soon = omega arith }

pub returns : goal.returns
returns c =
    let s = c.args.self.now in
    let n = s.stair.burst in
    let p = s.stair.period in
    let free = stair_free n p s.whole _ c.args.t c.opens.ensures (omega arith) in
    let may = c.opens.ensures c.args.t in (
      grind (arith, nat_tests),
      λ m. rw (c.max.ensures, c.period.ensures) (stair_struck n p s.whole c.args.t m s.stair.some s.stair.lasts free),
      refl,
    )
