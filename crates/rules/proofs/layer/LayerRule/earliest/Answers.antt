use Rattle.std.proofs.Common.{arith, max}
use Rattle.std.proofs.lemmas.Bool.Decides.{nat_tests}
use Rattle.rules.proofs.Least.{earliest_barred, earliest_past}
use Rattle.rules.proofs.layer.LayerRule.earliest.Goals as goal

pub returns-clause-answer : goal.returns-clause-answer
returns-clause-answer g c =
    let l = c.args.self.now in
    let e = earliest_barred c.opens.result c.args.t (g.T.Tally.own l.tally) (g.R.Rule.meaning l.below) c.opens.ensures in
    let first = c.in_ok-from.ensures in
    let is = c.in-Some.is in
    let below = c.earliest.ensures.answer in
    grind (arith, nat_tests)

pub returns-in_default-clause-answer : goal.returns-in_default-clause-answer
returns-in_default-clause-answer g c =
    let l = c.args.self.now in
    let m = g.R.Rule.meaning l.below in
    let e = earliest_barred c.opens.result c.args.t (g.T.Tally.own l.tally) m c.opens.ensures in
    let past = earliest_past m (max c.args.t c.opens.result) in
    let first = c.in_ok-from.ensures in
    let is = c.in_default.is in
    grind (arith, nat_tests)
