-- No granted stroke is lost, changed or overtaken: the granted strokes are those handed out, and then those that wait, in order.
use Rattle.std.proofs.Common.{◌≡◌, List, [], ◌∷◌, ◌++◌, Option, append_assoc, append-nil, arith}
use Rattle.frames.specs.Bells.{Bell, answer_of, left_of}
use Rattle.frames.specs.Runs.{grant, granted, handing, handed, held}
use Rattle.frames.specs.declared.call.Action.{Action}
use Rattle.frames.proofs.OneBell.{ran, kept}

-- what waited before and what was granted are what was handed out and what waits now
step_even : (o : Option Bell) (x : Action) → held o ++ grant x (answer_of o x) ≡ handing (answer_of o x) ++ held (left_of o x)
step_even o x = grind (arith, append-nil)

pub queued_run : (o : Option Bell) (xs : List Action) → held o ++ granted (ran o xs) ≡ handed (ran o xs) ++ held (kept o xs)
queued_run o [] = append-nil (held o)
queued_run o (x ∷ xs) = let e = step_even o x in let h = queued_run (left_of o x) xs in grind (arith, append_assoc)
