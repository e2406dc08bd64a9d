-- What a row holds.
use Rattle.std.specs.Prelude.{◌≡◌, ℕ, ◌-◌, List, ◌++◌, length, replicate, take}
use Rattle.limits.specs.declared.row.Row.{Row}

-- its numbers
abbrev pub in_row : {n : ℕ} → Row n → List ℕ
in_row r = take r.len r.places

-- a row is all told by its numbers: they stand in the first places, 0 in the others, and the count is theirs
abbrev pub IsRowOf : {n : ℕ} → List ℕ → Row n → Type 0
IsRowOf {n} xs r = (r.places ≡ xs ++ replicate (n - length xs) 0) × (r.len ≡ length xs)
