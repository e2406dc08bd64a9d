-- A run, call by call.
use Rattle.std.proofs.Common.{◌≡◌, ℕ, ◌≤◌, List, ◌++◌, length, drop}
use Rattle.frames.specs.Bells.{Bells, Answer, answers, leaves}
use Rattle.frames.specs.declared.call.Call.{Call}

-- the first i calls are done: their answers, the frame as it stands, and room for the answers to come
pub record Running (f₀ : Bells) (cs : List Call) (i : ℕ) (rs : List Answer) (len room : ℕ) (f : Bells) : Type 0 where
  pub said : answers f₀ cs ≡ rs ++ answers f (drop i cs)
  pub left_so : leaves f₀ cs ≡ leaves f (drop i cs)
  pub one_each : len ≡ i
  pub has_room : length cs ≤ room
