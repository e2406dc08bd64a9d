use Rattle.limits.proofs.Padding.{padded_back}
use Rattle.limits.proofs.row.Row.as_slice.Goals as goal

pub returns-clause-whole : goal.returns-clause-whole
returns-clause-whole g c = let s = c.args.self.now in padded_back g.row.N s.len s.places s.padded
