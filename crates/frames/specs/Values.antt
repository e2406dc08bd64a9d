-- What the values of the code stand for: lines by their bell, frames by their bells.
use Rattle.std.specs.Prelude.{List}
use Rattle.rules.specs.Rules.{Meaning}
use Rattle.frames.specs.Bells.{Bell, Bells, alone, beside}
use Rattle.frames.specs.Rings.{in_ring}
use Rattle.frames.specs.declared.grant.Grant.{Grant}
use Rattle.frames.specs.declared.line.Line.{Line}
use Rattle.frames.specs.declared.queue.Queue.{Queue}
use Rattle.frames.specs.declared.side_by_side.SideBySide.{SideBySide}

-- the strokes that wait, the oldest first
abbrev pub in_queue : Queue → List Grant
in_queue q = in_ring q.places q.first q.count

-- a line's bell, by what its rule means
abbrev pub line_bell : {R : Type 0} → (R → Meaning) → Line R → Bell
line_bell rule l = record { rule = rule l.rule; clock = l.clock; waiting = in_queue l.queue; handed = l.handed }

abbrev pub line_means : {R : Type 0} → (R → Meaning) → Line R → Bells
line_means rule l = alone (line_bell rule l)

-- two frames side by side, by the bells of each
abbrev pub pair_means : {L R : Type 0} → (L → Bells) → (R → Bells) → SideBySide L R → Bells
pair_means left right p = beside (left p.left) (right p.right)
