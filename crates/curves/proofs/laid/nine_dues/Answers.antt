use Rattle.curves.proofs.Dues.{dues_under}
use Rattle.curves.proofs.laid.nine_dues.Goals as goal

pub returns : goal.returns
returns c = dues_under _ _ 9 _ c.in_ok-three_stairs.ensures c.dues.ensures
