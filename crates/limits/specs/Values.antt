-- What the values of the code stand for: limits by their numbers.
use Rattle.std.specs.Prelude.{ℕ, List}
use Rattle.limits.specs.Limits.{Limit, stair, table}
use Rattle.limits.specs.RowNumbers.{in_row}
use Rattle.limits.specs.declared.jitter.JitteredOrder.{JitteredOrder}
use Rattle.limits.specs.declared.stair.Stair.{Stair}
use Rattle.limits.specs.declared.table.Table.{Table}

abbrev pub burst_of : Stair → ℕ
burst_of s = s.burst

abbrev pub period_of : Stair → ℕ
period_of s = s.period

abbrev pub stair_of : Stair → Limit
stair_of s = stair (burst_of s) (period_of s)

-- a table's given distances
abbrev pub given : Table → List ℕ
given x = in_row x.distances

abbrev pub table_of : Table → Limit
table_of x = table (given x)

-- the two stairs of a jittered order
abbrev pub jitter_of : JitteredOrder → Limit × Limit
jitter_of o = (stair_of o.first, stair_of o.second)
