-- What the values of the code stand for: rules by what they mean.
use Rattle.std.specs.Prelude.{ℕ, max}
use Rattle.limits.specs.Limits.{largest}
use Rattle.limits.specs.RowNumbers.{in_row}
use Rattle.limits.specs.Values.{burst_of, period_of, given}
use Rattle.limits.specs.declared.stair.Stair.{Stair}
use Rattle.limits.specs.declared.table.Table.{Table}
use Rattle.rules.specs.Rules.{Meaning, open_rule}
use Rattle.rules.specs.Layers.{layered, stair_own, table_own}
use Rattle.rules.specs.declared.layer.Layer.{Layer}
use Rattle.rules.specs.declared.open_rule.OpenRule.{OpenRule}
use Rattle.rules.specs.declared.stair_tally.StairTally.{StairTally}
use Rattle.rules.specs.declared.table_tally.TableTally.{TableTally}

-- what an open rule means
abbrev pub open_means : OpenRule → Meaning
open_means r = open_rule r.last

-- the stair whose strokes are counted; that stair alone, with what it remembers; and how long it can bar the next stroke
abbrev pub stair_tally_limit : StairTally → Stair
stair_tally_limit s = s.stair

abbrev pub stair_tally_own : StairTally → Meaning
stair_tally_own s = stair_own (burst_of s.stair) (period_of s.stair) s.whole

abbrev pub stair_tally_span : StairTally → ℕ
stair_tally_span s = period_of s.stair

-- the same of a table
abbrev pub table_tally_limit : TableTally → Table
table_tally_limit s = s.table

abbrev pub table_tally_own : TableTally → Meaning
table_tally_own s = table_own (given s.table) (in_row s.past)

abbrev pub table_tally_span : TableTally → ℕ
table_tally_span s = largest (given s.table)

-- a limit on a rule: its meaning and its reach, by those of the limit and of the rule below
abbrev pub layer_means : {T R : Type 0} → (T → Meaning) → (R → Meaning) → Layer T R → Meaning
layer_means own below l = layered (own l.tally) (below l.below)

abbrev pub layer_reach : {T R : Type 0} → (T → ℕ) → (R → ℕ) → Layer T R → ℕ
layer_reach span below l = max (below l.below) (span l.tally)
