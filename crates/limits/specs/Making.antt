-- Which ticks and limits can be taken: refusals by their numbers.
use Rattle.std.specs.Prelude.{ℕ, Bool, ◌&&◌, List, [], ◌∷◌, ◌++◌, length, Ok, Err, Result, nat_le, nat_lt, if◌then◌else◌}
use Rattle.limits.specs.Strokes.{last_tick, longest, never_falls}
use Rattle.limits.specs.Limits.{Limit, stair}

-- a tick past the last one is refused by 2
abbrev pub tick_taken : ℕ → Result (Unit {0}) ℕ
tick_taken t = if nat_lt last_tick t then Err 2 else Ok tt

-- the bursts and periods that a stair can have
abbrev pub in_range : ℕ → ℕ → Bool
in_range n p = (nat_le 1 n && nat_le n 255) && (nat_le 1 p && nat_le p longest)

-- making a stair: any other numbers are refused by 3
abbrev pub stair_made : ℕ → ℕ → Result Limit ℕ
stair_made n p = if in_range n p then Ok (stair n p) else Err 3

-- one more distance for a table with the given ones: a seventeenth is refused by 12 whatever it is, one that is too large or falls by 3
abbrev pub distance_taken : List ℕ → ℕ → Result (Unit {0}) ℕ
distance_taken given d = if nat_le 16 (length given) then Err 12 else if nat_le d longest && never_falls (given ++ d ∷ []) then Ok tt else Err 3
