-- The limits on a hammer: what a stair and a table ask of a list of strokes.
use Rattle.std.specs.Prelude.{◌≡◌, ℕ, zero, suc, ◌+◌, ◌-◌, ◌/◌, ◌<◌, ◌≤◌, max, Bool, true, ◌&&◌, List, [], ◌∷◌, reverse, length, nat_le, slice_index, if◌then◌else◌}
use Rattle.limits.specs.Strokes.{never_falls}

-- how many strokes of the list are in the window that begins with tick a and ends with tick b; both ticks count
abbrev pub within : ℕ → ℕ → List ℕ → ℕ
within a b [] = 0
within a b (t ∷ ts) = (if nat_le a t && nat_le t b then 1 else 0) + within a b ts

-- a stair of burst n and period p: the list never falls, and every closed window holds at most n strokes and one more for each whole period in its length
abbrev pub KeepsStair : ℕ → ℕ → List ℕ → Type 0
KeepsStair n p ts = (never_falls ts ≡ true) × ((a b : ℕ) → a ≤ b → within a b ts ≤ n + (b - a) / p)

-- of two lists x and y, the largest sum of a number of x and the one at the same place of y, as far as both go
abbrev pub largest_sum : List ℕ → List ℕ → ℕ
largest_sum [] ds = 0
largest_sum (x ∷ xs) [] = 0
largest_sum (x ∷ xs) (d ∷ ds) = max (x + d) (largest_sum xs ds)

-- the given distances backwards, with k more in front of them: each is the best that a given one and a shorter one come to.
-- The list so far is backwards, so its first matches the nearest given distance, its second the next, and so on
abbrev pub extended : List ℕ → ℕ → List ℕ
extended given zero = reverse given
extended given (suc k) = largest_sum given (extended given k) ∷ extended given k

-- d(n), for n from 1; with no given distance each is 0
abbrev pub distance : List ℕ → ℕ → ℕ
distance given n = slice_index (reverse (extended given (n - length given))) (n - 1)

-- what these numbers are, for a reader: d(n) for each given n, and for each n past those the largest of d(w) + d(n - w), where w is a given place.
-- No such sum is larger, and one of them is as large
pub record Distances (given : List ℕ) (d : ℕ → ℕ) : Type 0 where
  pub near : (n : ℕ) → 1 ≤ n → n ≤ length given → d n ≡ slice_index given (n - 1)
  pub no_larger : (n w : ℕ) → length given < n → 1 ≤ w → w ≤ length given → d w + d (n - w) ≤ d n
  pub as_large : (n : ℕ) → length given < n → 1 ≤ length given → (w : ℕ) × (1 ≤ w) × (w ≤ length given) × (d n ≡ d w + d (n - w))
  pub none : (n : ℕ) → length given ≡ 0 → d n ≡ 0

-- a table: the list never falls, and from any stroke to the n-th one after it there are at least d(n) ticks, whatever n is
abbrev pub KeepsTable : List ℕ → List ℕ → Type 0
KeepsTable given ts = (never_falls ts ≡ true) × ((i n : ℕ) → 1 ≤ n → i + n < length ts → slice_index ts i + distance given n ≤ slice_index ts (i + n))

-- the same two as tests. Of a stair it is enough to look at the windows that begin at a stroke and end at a stroke:
-- k strokes lie between t and the first of the list
abbrev pub full_from : ℕ → ℕ → ℕ → ℕ → List ℕ → Bool
full_from n p t k [] = true
full_from n p t k (u ∷ us) = nat_le (suc k) (n + (u - t) / p) && full_from n p t (suc k) us

abbrev pub few_enough : ℕ → ℕ → List ℕ → Bool
few_enough n p [] = true
few_enough n p (t ∷ ts) = full_from n p t 0 (t ∷ ts) && few_enough n p ts

abbrev pub keeps_stair : ℕ → ℕ → List ℕ → Bool
keeps_stair n p ts = never_falls ts && few_enough n p ts

-- the first of the list is the n-th stroke after t
abbrev pub apart_from : List ℕ → ℕ → ℕ → List ℕ → Bool
apart_from given t n [] = true
apart_from given t n (u ∷ us) = nat_le (t + distance given n) u && apart_from given t (suc n) us

abbrev pub far_enough : List ℕ → List ℕ → Bool
far_enough given [] = true
far_enough given (t ∷ ts) = apart_from given t 1 ts && far_enough given ts

abbrev pub keeps_table : List ℕ → List ℕ → Bool
keeps_table given ts = never_falls ts && far_enough given ts

-- a limit by its numbers: a stair's burst and period, or a table's given distances
pub data Limit : Type 0 where
  stair : ℕ → ℕ → Limit
  table : List ℕ → Limit

abbrev pub keeps : Limit → List ℕ → Bool
keeps (stair n p) ts = keeps_stair n p ts
keeps (table given) ts = keeps_table given ts

abbrev pub Keeps : Limit → List ℕ → Type 0
Keeps (stair n p) ts = KeepsStair n p ts
Keeps (table given) ts = KeepsTable given ts

-- the largest of the numbers, 0 if there is none
abbrev pub largest : List ℕ → ℕ
largest [] = 0
largest (d ∷ ds) = max d (largest ds)
