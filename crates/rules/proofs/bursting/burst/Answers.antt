use Rattle.std.proofs.Common.{◌≡◌, ◌≤◌, Some, None, ◌∙◌, arith}
use Rattle.std.proofs.lemmas.Bool.Decides.{nat_tests}
use Rattle.std.proofs.lemmas.List.{set-get_or}
use Rattle.limits.specs.Strokes.{last_tick}
use Rattle.rules.specs.Rules.{earliest}
use Rattle.rules.proofs.Bursts.{bursting_more, bursting_shut}
use Rattle.rules.proofs.WorkedExamples.{worked_examples}
use Rattle.rules.proofs.bursting.burst.Goals as goal

pub returns-in_err-up_to_last-clause-examples : goal.returns-in_err-up_to_last-clause-examples
returns-in_err-up_to_last-clause-examples g c = worked_examples

pub returns-in_default : goal.returns-in_default
returns-in_default g c =
    let m = g.R.Rule.meaning c.loop-i.rule in
    let answer = c.in_ok-tick.ensures.answer in
    let early : c.args.asked ≤ last_tick = let taken = c.in_ok-up_to_last.ensures in grind (arith, nat_tests) in
    let none : earliest m c.args.asked ≡ None = let is = c.in_default.is in grind (arith, nat_tests) in
    record {
      burst = rw (set-get_or c.loop-i.due c.loop-i.i 0) (bursting_shut (g.R.Rule.meaning c.args.rule.now) c.args.asked c.args.due.now c.loop-i.i m c.loop-i.due (omega arith) (omega arith) c.loop-i.invariant.0 none);
      reach = c.loop-i.invariant.1;
      examples = worked_examples;
    }

pub loop-i-preserved : goal.loop-i-preserved
loop-i-preserved g c =
    let m = g.R.Rule.meaning c.loop-i.rule in
    let answer = c.in_ok-tick.ensures.answer in
    let some : earliest m c.args.asked ≡ Some c.in-Some.tick = let is = c.in-Some.is in grind (arith, nat_tests) in
    let struck = c.in_ok-strike.ensures in (
      bursting_more (g.R.Rule.meaning c.args.rule.now) c.args.asked c.args.due.now c.loop-i.i m c.loop-i.due c.in-Some.tick (g.R.Rule.meaning c.strike.new.self) (omega arith) c.loop-i.invariant.0 some struck.left,
      struck.same_reach ∙ c.loop-i.invariant.1,
    )
