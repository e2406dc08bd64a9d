use Rattle.std.proofs.Common.{◌∷◌, length, refl, arith, length-take}
use Rattle.std.proofs.lemmas.Bool.Decides.{nat_tests}
use Rattle.limits.specs.RowNumbers.{in_row}
use Rattle.limits.specs.Values.{given}
use Rattle.rules.proofs.TableSteps.{newest_largest, table_free, table_struck}
use Rattle.rules.proofs.table_tally.TableTallyTally.after.Goals as goal

pub invariant_of-result : goal.invariant_of-result
invariant_of-result c =
    let s = c.args.self.now in
    let t = c.args.t in
    let ds = given s.table in
    let newest = newest_largest ds (in_row s.past) t (table_free ds (in_row s.past) _ t c.opens.ensures (omega arith)) in
    let long = length-take (length ds) (t ∷ (in_row s.past)) in
    record { few = rw c.past_after.ensures (omega arith); ticks = rw c.past_after.ensures (omega arith) }

pub returns : goal.returns
returns c =
    let s = c.args.self.now in
    let t = c.args.t in
    let ds = given s.table in
    let free = table_free ds (in_row s.past) _ t c.opens.ensures (omega arith) in
    let may = c.opens.ensures t in (
      grind (arith, nat_tests),
      λ m. table_struck ds (in_row s.past) (in_row c.past_after.result) t m free c.past_after.ensures,
      refl,
    )
