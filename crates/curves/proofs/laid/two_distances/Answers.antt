use Rattle.std.proofs.Common.{◌≡◌, ℕ, [], ◌∷◌, Ok, Result, ap}
use Rattle.limits.specs.Limits.{table}
use Rattle.limits.specs.Values.{given, table_of}
use Rattle.rules.specs.Rules.{Meaning}
use Rattle.rules.proofs.Laying.{laid_same}
use Rattle.curves.proofs.laid.two_distances.Goals as goal

pub returns : goal.returns
returns c =
    let one : given c.push.new.self ≡ 10 ∷ [] = rw c.new-table.ensures at c.in_ok-push.ensures.left in
    let both : table_of c.push-2.new.self ≡ table (10 ∷ 30 ∷ []) = ap table (rw one at c.in_ok-push-2.ensures.left) in
    ap {B = Result Meaning ℕ} Ok (laid_same _ _ _ _ _ c.new-2.ensures.laid both c.new.ensures)
