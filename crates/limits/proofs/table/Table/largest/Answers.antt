use Rattle.limits.specs.RowNumbers.{in_row}
use Rattle.limits.proofs.Rising.{largest_last}
use Rattle.limits.proofs.table.Table.largest.Goals as goal

pub returns : goal.returns
returns c = let last = largest_last (in_row c.args.self.now.distances) c.args.self.now.rising in cc
