-- The laws of a layer in two lots, each from the same lot of the rule below alone.
use Rattle.std.specs.Prelude.{ℕ, max, List}
use Rattle.limits.specs.Limits.{Limit, stair, table, largest, Distances, distance}
use Rattle.rules.specs.Rules.{Meaning, Order, Early, Late, Reach}
use Rattle.rules.specs.Layers.{layered, stair_own, table_own}

-- the first lot: whatever lies below, the layer keeps Order where that does, and Early where that does
abbrev pub FirstLot : (Meaning → Meaning) → Type 0
FirstLot layer = (m : Meaning) → (Order m → Order (layer m)) × (Early m → Early (layer m))

-- the second lot: the layer keeps Late where the rule below does, and Reach, for the larger of the two reaches, where that keeps both
abbrev pub SecondLot : (Meaning → Meaning) → ℕ → Type 0
SecondLot layer s = (m : Meaning) (r : ℕ) → Late m → (Late (layer m) × (Reach m r → Reach (layer m) (max r s)))

-- a limit, whatever it remembers, keeps both lots
abbrev pub KeepsLots : Limit → Type 0
KeepsLots (stair n p) = (w : ℕ) → FirstLot (layered (stair_own n p w)) × SecondLot (layered (stair_own n p w)) p
KeepsLots (table given) = (past : List ℕ) → FirstLot (layered (table_own given past)) × SecondLot (layered (table_own given past)) (largest given)

-- the distances of a table, past the given ones too, are what they are said to be; a stair has none
abbrev pub Measured : Limit → Type 0
Measured (stair n p) = Unit {0}
Measured (table given) = Distances given (distance given)
