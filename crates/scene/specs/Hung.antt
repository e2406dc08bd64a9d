-- What is hung in this scene.
use Rattle.std.specs.Prelude.{[], ◌∷◌}
use Rattle.limits.specs.Limits.{stair, table}
use Rattle.rules.specs.Rules.{Meaning, laid, pile, struck}
use Rattle.rules.specs.Values.{open_means, stair_tally_own, table_tally_own, layer_means}
use Rattle.rules.specs.declared.layer.Layer.{Layer}
use Rattle.rules.specs.declared.open_rule.OpenRule.{OpenRule}
use Rattle.rules.specs.declared.stair_tally.StairTally.{StairTally}
use Rattle.rules.specs.declared.table_tally.TableTally.{TableTally}
use Rattle.frames.specs.Bells.{Bell, Bells, alone, beside, fresh}
use Rattle.frames.specs.Values.{line_bell, line_means, pair_means}
use Rattle.frames.specs.declared.line.Line.{Line}
use Rattle.frames.specs.declared.side_by_side.SideBySide.{SideBySide}

-- the bells: two strokes and one more a minute; 400 and 1000 ticks apart; and one whose rule was struck before
abbrev pub great_bell : Bell
great_bell = fresh (pile (stair 2 60000 ∷ []))

abbrev pub chime_bell : Bell
chime_bell = fresh (pile (table (400 ∷ 1000 ∷ []) ∷ []))

abbrev pub old_bell : Bell
old_bell = fresh (laid (stair 2 3000) (struck 500 (pile (stair 1 2000 ∷ []))))

-- bell 0, and beside it bells 1 and 3
abbrev pub tower : Bells
tower = beside (alone great_bell) (beside (alone chime_bell) (alone old_bell))

-- the same of the code's values
abbrev pub one_stair : Layer StairTally OpenRule → Meaning
one_stair = layer_means stair_tally_own open_means

abbrev pub one_table : Layer TableTally OpenRule → Meaning
one_table = layer_means table_tally_own open_means

abbrev pub stair_on_stair : Layer StairTally (Layer StairTally OpenRule) → Meaning
stair_on_stair = layer_means stair_tally_own one_stair

abbrev pub great_line : Line (Layer StairTally OpenRule) → Bell
great_line = line_bell one_stair

abbrev pub chime_line : Line (Layer TableTally OpenRule) → Bell
chime_line = line_bell one_table

abbrev pub old_line : Line (Layer StairTally (Layer StairTally OpenRule)) → Bell
old_line = line_bell stair_on_stair

abbrev pub tower_means : SideBySide (Line (Layer StairTally OpenRule)) (SideBySide (Line (Layer TableTally OpenRule)) (Line (Layer StairTally (Layer StairTally OpenRule)))) → Bells
tower_means = pair_means (line_means one_stair) (pair_means (line_means one_table) (line_means stair_on_stair))
