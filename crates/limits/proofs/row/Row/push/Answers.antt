use Rattle.limits.proofs.Padding.{padded_set}
use Rattle.limits.proofs.row.Row.push.Goals as goal

pub invariant_of-self : goal.invariant_of-self
invariant_of-self g c = let s = c.args.self.now in record { padded = padded_set g.row.N s.len s.places s.padded c.args.x c.requires }
