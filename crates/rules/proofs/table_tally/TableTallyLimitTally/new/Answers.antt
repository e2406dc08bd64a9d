use Rattle.std.proofs.Common.{refl}
use Rattle.limits.specs.Values.{given}
use Rattle.rules.specs.Layers.{table_own}
use Rattle.rules.specs.LayerLaws.{first_lot, second_lot}
use Rattle.rules.specs.TableLaws.{table_begins, table_early, table_late, table_reach}
use Rattle.rules.proofs.Tables.{decides_table}
use Rattle.rules.proofs.TableDistances.{distances}
use Rattle.rules.proofs.TableSteps.{table_laid}
use Rattle.rules.proofs.table_tally.TableTallyLimitTally.new.Goals as goal

pub returns : goal.returns
returns c =
    let ds = given c.args.table in
    record {
      limit = refl;
      laid = λ m o. rw c.new.ensures (table_laid ds m o);
      keeps = λ ts. decides_table ds ts;
      span = refl;
      distances = distances ds;
      lots = λ past. (
        first_lot (table_own ds past) (table_begins ds past) (table_early ds past),
        second_lot (table_own ds past) _ (table_late ds past) (table_reach ds past),
      );
    }
