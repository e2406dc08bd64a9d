use Rattle.std.proofs.Common.{◌≡◌, ℕ, ◌+◌, ◌≤◌, List, drop}
use Rattle.records.specs.Audits.{ticks_of}
use Rattle.records.proofs.Audits.{SoFar}
use Rattle.records.proofs.auditing.audit.Given as goal

-- what is left to audit gives the answer, on the rule as it stands
abbrev pub invariant-loop-i : goal.invariant-loop-i
invariant-loop-i g l =
    let ticks : List g.row.T.Denot → List ℕ = ticks_of g.T.Record.rings g.T.Record.falls l.bell in
    (l.place ≤ l.i)
    × SoFar (g.R.Rule.meaning l.rule) (l.place + 1) (ticks (drop l.i l.records)) (g.R.Rule.meaning l.initial.rule) (ticks l.records)
    × (g.R.Rule.reaches l.rule ≡ g.R.Rule.reaches l.initial.rule)
