use Rattle.std.proofs.Common.{◌≡◌}
use Rattle.rules.proofs.Bursts.{Bursting}
use Rattle.rules.proofs.bursting.burst.Given as goal

abbrev pub invariant-loop-i : goal.invariant-loop-i
invariant-loop-i g l = Bursting (g.R.Rule.meaning l.initial.rule) l.asked l.initial.due l.i (g.R.Rule.meaning l.rule) l.due × (g.R.Rule.reaches l.rule ≡ g.R.Rule.reaches l.initial.rule)
