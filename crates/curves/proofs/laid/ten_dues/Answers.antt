use Rattle.curves.proofs.Dues.{dues_under}
use Rattle.curves.proofs.laid.ten_dues.Goals as goal

pub returns : goal.returns
returns c = dues_under _ _ 10 _ c.in_ok-chime_drum.ensures c.dues.ensures
