use Rattle.std.proofs.Common.{◌≡◌, [], drop, arith}
use Rattle.std.proofs.lemmas.Grind.{common_steps}
use Rattle.std.proofs.lemmas.List.{drop_all}
use Rattle.records.proofs.Audits.{audited_so}
use Rattle.records.proofs.auditing.audit.Goals as goal

pub returns-then-is_err-clause-audited : goal.returns-then-is_err-clause-audited
returns-then-is_err-clause-audited g c =
    audited_so (g.R.Rule.meaning c.args.rule.now) _ _ _ (g.met.R.Rule.order c.args.rule.now).empty (grind (arith, common_steps)) (grind (arith, common_steps))

pub returns-clause-audited : goal.returns-clause-audited
returns-clause-audited g c =
    let none : drop c.loop-i.i c.args.records.now ≡ [] = drop_all c.loop-i.i c.args.records.now c.loop-i-test.false in
    let so_far = rw none at c.loop-i.invariant.1 in
    audited_so _ _ _ _ (g.met.R.Rule.order c.args.rule.now).empty so_far.0 so_far.1
