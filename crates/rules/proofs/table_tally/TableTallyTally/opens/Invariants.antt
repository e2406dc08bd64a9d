use Rattle.std.proofs.Common.{◌≡◌, max, drop}
use Rattle.limits.specs.Limits.{largest_sum}
use Rattle.limits.specs.RowNumbers.{in_row}
use Rattle.limits.specs.Values.{given}
use Rattle.rules.proofs.table_tally.TableTallyTally.opens.Given as goal

-- the largest sum so far, and that of what is left, are the largest of all
abbrev pub invariant-loop-k : goal.invariant-loop-k
invariant-loop-k l = max l.opens (largest_sum (drop l.k (given l.self.table)) (drop l.k (in_row l.self.past))) ≡ largest_sum (given l.self.table) (in_row l.self.past)
