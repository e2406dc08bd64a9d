use Rattle.std.proofs.Common.{◌≡◌, ℕ, Ok, Result, ap}
use Rattle.limits.specs.Limits.{stair}
use Rattle.rules.specs.Rules.{Meaning}
use Rattle.limits.specs.Values.{stair_of}
use Rattle.rules.proofs.Laying.{laid_same}
use Rattle.curves.proofs.laid.three_stairs.Goals as goal

pub returns : goal.returns
returns c =
    let slow : stair_of c.in_ok-new.field-0 ≡ stair 5 8 = let e = c.in_ok-new.ensures in cc in
    let middle : stair_of c.in_ok-new-2.field-0 ≡ stair 3 4 = let e = c.in_ok-new-2.ensures in cc in
    let fast : stair_of c.in_ok-new-3.field-0 ≡ stair 1 1 = let e = c.in_ok-new-3.ensures in cc in
    let one = laid_same _ _ _ _ _ c.new-slow.ensures.laid slow c.new-2.ensures in
    let two = laid_same _ _ _ _ _ c.new-middle.ensures.laid middle one in
    ap {B = Result Meaning ℕ} Ok (laid_same _ _ _ _ _ c.new-5.ensures.laid fast two)
