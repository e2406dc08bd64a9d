-- Rings: a row of places in which the first comes after the last.
use Rattle.std.specs.Prelude.{◌≡◌, ℕ, ◌<◌, ◌≤◌, List, ◌++◌, length, take, drop}

-- all that stands in the places, beginning with one of them and going round
abbrev pub round_from : {T : Type 0} → ℕ → List T → List T
round_from first places = drop first places ++ take first places

-- what a ring holds: so many, beginning with the first
abbrev pub in_ring : {T : Type 0} → List T → ℕ → ℕ → List T
in_ring places first count = take count (round_from first places)

-- a ring of so many places begins in one of them, and holds no more than there are
pub record IsRing {T : Type 0} (size : ℕ) (places : List T) (first count : ℕ) : Type 0 where
  pub long : length places ≡ size
  pub inside : first < size
  pub few : count ≤ size
