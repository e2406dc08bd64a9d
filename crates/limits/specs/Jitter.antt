-- Jittered orders: strokes that come once in each period, each up to the jitter late, and some least distance apart.
use Rattle.std.specs.Prelude.{ℕ, ◌+◌, ◌/◌, ◌%◌, Bool, ◌&&◌, Ok, Err, Result, ◌==◌, nat_le, nat_lt, if◌then◌else◌}
use Rattle.limits.specs.Strokes.{longest}
use Rattle.limits.specs.Limits.{Limit, stair}

-- x / y rounded up: the whole part, and one more where something is left over
abbrev pub ceil : ℕ → ℕ → ℕ
ceil x y = x / y + (if x % y == 0 then 0 else 1)

-- the burst of the first stair: the strokes of as many periods as the jitter spans can come together, and one more
abbrev pub jitter_burst : ℕ → ℕ → ℕ
jitter_burst p j = ceil j p + 1

-- the second stair keeps strokes the least distance d apart, where that says more than the first
abbrev pub second_stair : ℕ → ℕ → ℕ → Limit
second_stair p j d = if nat_lt 0 d && nat_lt p (d + j) then stair 1 d else stair (jitter_burst p j) p

-- period, jitter and least distance in range, and a first burst that a stair can have; else refused by 3
abbrev pub jitter_in_range : ℕ → ℕ → ℕ → Bool
jitter_in_range p j d = (nat_le 1 p && nat_le p longest) && ((nat_le j longest && nat_le d longest) && nat_le (jitter_burst p j) 255)

abbrev pub jittered : ℕ → ℕ → ℕ → Result (Limit × Limit) ℕ
jittered p j d = if jitter_in_range p j d then Ok (stair (jitter_burst p j) p, second_stair p j d) else Err 3
