use Rattle.limits.proofs.Padding.{padded_grown}
use Rattle.limits.proofs.row.Row.push_front.Goals as goal

pub invariant_of-self : goal.invariant_of-self
invariant_of-self g c = let s = c.args.self.now in record { padded = rw c.min-self.ensures (padded_grown g.row.N s.len s.places s.padded) }
