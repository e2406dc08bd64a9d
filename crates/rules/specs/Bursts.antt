-- Strokes that are asked for one after another, each struck as early as the rule allows.
use Rattle.std.specs.Prelude.{◌≡◌, ℕ, List, [], ◌∷◌, ◌++◌, length, drop, replicate, Some, None, Ok, Err, Result, nat_lt, if◌then◌else◌}
use Rattle.limits.specs.Strokes.{last_tick}
use Rattle.rules.specs.Rules.{Meaning, struck, earliest}

-- the ticks at which they are due: each the earliest from the tick asked, on the rule struck by those before; where there is none, the list ends
abbrev pub dues : Meaning → List ℕ → List ℕ
dues m [] = []
dues m (a ∷ as') = elim (earliest m a) [ Some d ↦ d ∷ dues (struck d m) as' | None ↦ [] ]

-- a rule struck at each tick of a list
abbrev pub struck_by : List ℕ → Meaning → Meaning
struck_by [] m = m
struck_by (t ∷ ts) m = struck_by ts (struck t m)

-- a burst asked for at tick a, with the due ticks ds: refused by 2 past the last tick, and else answered by their number
abbrev pub burst_answer : ℕ → List ℕ → Result ℕ ℕ
burst_answer a ds = if nat_lt last_tick a then Err 2 else Ok (length ds)

-- and what it leaves of the places and of the rule: the due ticks stand in the first places and the others as they were, and the rule is struck by them
pub record Burst (m : Meaning) (a : ℕ) (places : List ℕ) (answer : Result ℕ ℕ) (places' : List ℕ) (m' : Meaning) : Type 0 where
  pub answered : answer ≡ burst_answer a (dues m (replicate (length places) a))
  pub written : places' ≡ dues m (replicate (length places) a) ++ drop (length (dues m (replicate (length places) a))) places
  pub struck_so : m' ≡ struck_by (dues m (replicate (length places) a)) m
