use Rattle.std.proofs.Common.{refl}
use Rattle.rules.specs.Layers.{stair_own}
use Rattle.rules.specs.LayerLaws.{first_lot, second_lot}
use Rattle.rules.specs.StairLaws.{stair_begins, stair_early, stair_late, stair_reach}
use Rattle.rules.proofs.Stairs.{decides_stair}
use Rattle.rules.proofs.StairSteps.{stair_laid}
use Rattle.rules.proofs.stair_tally.StairTallyLimitTally.new.Goals as goal

pub returns : goal.returns
returns c =
    let s = c.args.stair in
    let n = s.burst in
    let p = s.period in
    record {
      limit = refl;
      laid = λ m o. stair_laid n p m s.some s.lasts o;
      keeps = λ ts. decides_stair n p ts s.lasts;
      span = refl;
      lots = λ w. (
        first_lot (stair_own n p w) (stair_begins n p w) (stair_early n p w),
        second_lot (stair_own n p w) p (stair_late n p w) (stair_reach n p w s.some),
      );
    }
