-- Ticks, and lists of strokes: whole numbers, each the tick of one stroke.
use Rattle.std.specs.Prelude.{ℕ, ◌≤◌, Bool, true, ◌&&◌, List, [], ◌∷◌, nat_le}

-- a tick is one millisecond, from 0 to this one; the lists of strokes below may also hold numbers past it
abbrev pub last_tick : ℕ
last_tick = 1000000000000

-- the longest period, and the largest distance and reach
abbrev pub longest : ℕ
longest = 1000000000

-- no stroke lies before the number, nor before the stroke in front of it
abbrev pub rises_from : ℕ → List ℕ → Bool
rises_from t [] = true
rises_from t (u ∷ us) = nat_le t u && rises_from u us

-- the list never falls
abbrev pub never_falls : List ℕ → Bool
never_falls ts = rises_from 0 ts

-- two lists of one length, the first never behind the second, stroke for stroke
abbrev pub NoLater : List ℕ → List ℕ → Type 0
NoLater [] [] = Unit {0}
NoLater [] (u ∷ us) = ⊥
NoLater (t ∷ ts) [] = ⊥
NoLater (t ∷ ts) (u ∷ us) = (t ≤ u) × NoLater ts us
