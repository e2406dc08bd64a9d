-- The places of a row.
use Rattle.std.specs.Prelude.{◌≡◌, ℕ, ◌-◌, ◌≤◌, List, drop, length, replicate}

-- all n places, of which the first so many hold the numbers, and 0 in each of the others
pub record IsPadded (n len : ℕ) (places : List ℕ) : Type 0 where
  pub whole : length places ≡ n
  pub inside : len ≤ n
  pub empty : drop len places ≡ replicate (n - len) 0
