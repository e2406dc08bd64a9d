-- What the rules of this program mean.
use Rattle.rules.specs.Rules.{Meaning}
use Rattle.rules.specs.Values.{open_means, stair_tally_own, table_tally_own, layer_means}
use Rattle.rules.specs.declared.layer.Layer.{Layer}
use Rattle.rules.specs.declared.open_rule.OpenRule.{OpenRule}
use Rattle.rules.specs.declared.stair_tally.StairTally.{StairTally}
use Rattle.rules.specs.declared.table_tally.TableTally.{TableTally}

abbrev pub one_stair_means : Layer StairTally OpenRule → Meaning
one_stair_means = layer_means stair_tally_own open_means

abbrev pub two_stairs_means : Layer StairTally (Layer StairTally OpenRule) → Meaning
two_stairs_means = layer_means stair_tally_own one_stair_means

abbrev pub three_stairs_means : Layer StairTally (Layer StairTally (Layer StairTally OpenRule)) → Meaning
three_stairs_means = layer_means stair_tally_own two_stairs_means

abbrev pub one_table_means : Layer TableTally OpenRule → Meaning
one_table_means = layer_means table_tally_own open_means
