use Rattle.std.proofs.Common.{◌≡◌, ◌≤◌, [], length, drop, ap, arith}
use Rattle.std.proofs.lemmas.List.{drop_all}
use Rattle.limits.specs.Limits.{largest, largest_sum}
use Rattle.limits.specs.RowNumbers.{in_row}
use Rattle.limits.specs.Strokes.{last_tick, longest}
use Rattle.limits.specs.Values.{given}
use Rattle.rules.proofs.TableSteps.{largest_at, no_sum, table_opens}
use Rattle.rules.proofs.table_tally.TableTallyTally.opens.Goals as goal

pub overflow_add-stroke : goal.overflow_add-stroke
overflow_add-stroke c =
    let s = c.args.self.now in
    let ds = c.distances-distances.result.now in
    let xs = c.as_slice-stroke-items.result.now in
    let short : largest ds ≤ longest = rw c.distances-distances.ensures s.table.short in
    let ticks : largest xs ≤ last_tick = rw c.as_slice-stroke-items.ensures.numbers s.ticks in
    let many = ap length c.distances-distances.ensures in
    let few = ap length c.as_slice-stroke-items.ensures.numbers in
    let d = largest_at ds c.loop-k.k (omega (arith, s.few)) in
    let x = largest_at xs c.loop-k.k (omega arith) in
    omega arith

pub returns : goal.returns
returns c t =
    let s = c.args.self.now in
    let ds = given s.table in
    let xs = in_row s.past in
    let k = c.loop-k.k in
    let few = ap length c.as_slice-stroke-items.ensures.numbers in
    let none : drop k xs ≡ [] = drop_all k xs (omega arith) in
    let left : largest_sum (drop k ds) (drop k xs) ≡ 0 = rw none (no_sum (drop k ds) [] (omega arith)) in
    let same : c.loop-k.opens ≡ largest_sum ds xs = omega (arith, c.loop-k.invariant) in
    rw same (table_opens ds xs t)
