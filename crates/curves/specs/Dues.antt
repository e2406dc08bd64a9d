-- When the strokes of a burst are due.
use Rattle.std.specs.Prelude.{ℕ, if◌then◌else◌, List, ◌++◌, length, drop, replicate, Ok, Err, Result, nat_lt}
use Rattle.limits.specs.Strokes.{last_tick}
use Rattle.rules.specs.Rules.{Meaning}
use Rattle.rules.specs.Bursts.{dues}

-- the due ticks of n strokes, and a 0 for each that is not due up to the last tick
abbrev pub padded_dues : Meaning → ℕ → ℕ → List ℕ
padded_dues m a n = let due = dues m (replicate n a) in due ++ drop (length due) (replicate n 0)

-- a burst asked for past the last tick is refused by 2
abbrev pub dues_answer : Meaning → ℕ → ℕ → Result (List ℕ) ℕ
dues_answer m a n = if nat_lt last_tick a then Err 2 else Ok (padded_dues m a n)
