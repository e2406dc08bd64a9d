use Rattle.curves.proofs.Dues.{dues_under}
use Rattle.curves.proofs.laid.five_dues.Goals as goal

pub returns : goal.returns
returns c = dues_under _ _ 5 _ c.in_ok-two_distances.ensures c.dues.ensures
