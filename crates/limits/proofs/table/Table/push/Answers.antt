use Rattle.std.proofs.Common.{[], ◌∷◌, arith, length-append}
use Rattle.std.proofs.lemmas.Bool.Decides.{nat_tests}
use Rattle.limits.specs.RowNumbers.{in_row}
use Rattle.limits.proofs.Rising.{largest_push, rising_push}
use Rattle.limits.proofs.table.Table.push.Goals as goal
use Rattle.limits.proofs.table.Table.push.Goals.{then-distance-gt-LONGEST-via-then-distance-gt-LONGEST, then-distance-gt-LONGEST-via-else-distance-gt-LONGEST+then-distance-largest}

pub returns-then-distance-gt-LONGEST-clause-answer : goal.returns-then-distance-gt-LONGEST-clause-answer
returns-then-distance-gt-LONGEST-clause-answer c =
    let rise = rising_push (in_row c.args.self.now.distances) c.args.distance in
    elim c.then-distance-gt-LONGEST.branch [
      | then-distance-gt-LONGEST-via-then-distance-gt-LONGEST w ↦ grind (arith, nat_tests)
      | then-distance-gt-LONGEST-via-else-distance-gt-LONGEST+then-distance-largest w ↦ grind (arith, nat_tests)
    ]

pub invariant_of-self : goal.invariant_of-self
invariant_of-self c =
    let s = c.args.self.now in
    let d = c.args.distance in
    let rise = rising_push (in_row s.distances) d in
    let top = largest_push (in_row s.distances) d in
    let long = length-append (in_row s.distances) (d ∷ []) in
    record {
      few = rw c.push.ensures (grind (arith, nat_tests));
      rising = rw c.push.ensures (grind (arith, nat_tests, s.rising));
      short = rw c.push.ensures (omega (arith, s.short));
    }
