-- What the calls on a rule answer: refusals by their numbers.
use Rattle.std.specs.Prelude.{ℕ, max, Bool, ◌&&◌, Ok, Err, Some, None, Option, Result, nat_le, nat_lt, if◌then◌else◌}
use Rattle.limits.specs.Strokes.{last_tick}
use Rattle.rules.specs.Rules.{Meaning, may, earliest}

-- the earliest stroke from t on: refused by 2 past the last tick
abbrev pub earliest_from : Meaning → ℕ → Result (Option ℕ) ℕ
earliest_from m t = if nat_lt last_tick t then Err 2 else Ok (earliest m t)

-- a strike at t: past the last tick it is refused by 2, and where the rule does not allow it by 14
abbrev pub strike_at : Meaning → ℕ → Result (Unit {0}) ℕ
strike_at m t = if nat_lt last_tick t then Err 2 else if may m t then Ok tt else Err 14

-- a tick that may be struck
abbrev pub can_strike : Meaning → ℕ → Bool
can_strike m t = nat_le t last_tick && may m t

-- where just the numbers before x are barred: the first one from t on that is not, up to the last tick, or none; refused by 2 past the last tick
abbrev pub first_open : ℕ → ℕ → Result (Option ℕ) ℕ
first_open t x = if nat_lt last_tick t then Err 2 else Ok (if nat_le (max t x) last_tick then Some (max t x) else None)
