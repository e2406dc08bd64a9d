-- A pile of limits that can be made keeps the laws of order and of early strokes.
use Rattle.std.proofs.Common.{◌≤◌, List, [], ◌∷◌, None, subst}
use Rattle.std.specs.List.{AllByRecursion}
use Rattle.limits.specs.Limits.{Limit, stair, table}
use Rattle.rules.specs.Rules.{Meaning, Order, Early, laid, pile}
use Rattle.rules.specs.Layers.{layered, stair_own, table_own}
use Rattle.rules.specs.Lots.{FirstLot}
use Rattle.rules.specs.OpenLaws.{open_order, open_early}
use Rattle.rules.specs.LayerLaws.{first_lot}
use Rattle.rules.specs.StairLaws.{stair_begins, stair_early}
use Rattle.rules.proofs.StairSteps.{stair_laid}
use Rattle.rules.specs.TableLaws.{table_begins, table_early}
use Rattle.rules.proofs.TableSteps.{table_laid}

abbrev pub Laws : Meaning → Type 0
Laws m = Order m × Early m

abbrev pub Proper : Limit → Type 0
Proper (stair n p) = (1 ≤ n) × (1 ≤ p)
Proper (table given) = Unit {0}

both : (own m : Meaning) → FirstLot (layered own) → Laws m → Laws (layered own m)
both own m lot l = ((lot m).0 l.0, (lot m).1 l.1)

laid_laws : (x : Limit) (m : Meaning) → Proper x → Laws m → Laws (laid x m)
laid_laws (stair n p) m h l = subst Laws (stair_laid n p m h.0 h.1 l.0) (both (stair_own n p 0) m (first_lot (stair_own n p 0) (stair_begins n p 0) (stair_early n p 0)) l)
laid_laws (table given) m h l = subst Laws (table_laid given m l.0) (both (table_own given []) m (first_lot (table_own given []) (table_begins given []) (table_early given [])) l)

pub pile_laws : (xs : List Limit) → AllByRecursion Proper xs → Laws (pile xs)
pile_laws [] h = (open_order None, open_early None)
pile_laws (x ∷ xs) h = laid_laws x (pile xs) h.0 (pile_laws xs h.1)
