use Rattle.std.proofs.Common.{arith}
use Rattle.std.proofs.lemmas.Bool.Decides.{nat_tests}
use Rattle.rules.specs.OpenLaws.{open_may}
use Rattle.rules.specs.Values.{open_means}
use Rattle.rules.proofs.Least.{earliest_open, earliest_shut}
use Rattle.rules.proofs.open_rule.OpenRuleRule.earliest.Goals as goal

pub returns-clause-answer : goal.returns-clause-answer
returns-clause-answer c =
    let r = c.args.self.now in
    let free = earliest_open c.opens.result c.args.t (open_means r) (rw c.opens.ensures (open_may r.last)) in
    let shut = earliest_shut c.opens.result c.args.t (open_means r) (rw c.opens.ensures (open_may r.last)) in
    grind (arith, nat_tests)
