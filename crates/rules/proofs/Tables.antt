-- The test of a table tells whether every distance is kept.
use Rattle.std.proofs.Common.{◌≡◌, ℕ, zero, suc, ◌+◌, ◌<◌, ◌≤◌, true, List, [], ◌∷◌, length, get_or, Decides, refl, arith}
use Rattle.std.proofs.lemmas.Bool.Decides.{nat_tests}
use Rattle.limits.specs.Limits.{distance, apart_from, far_enough, KeepsTable, keeps_table}

-- every distance is kept
abbrev pub Apart : List ℕ → List ℕ → Type 0
Apart given ts = (i n : ℕ) → 1 ≤ n → i + n < length ts → get_or ts i 0 + distance given n ≤ get_or ts (i + n) 0

apart_at : (given : List ℕ) (t n : ℕ) (us : List ℕ) (j : ℕ) → apart_from given t n us ≡ true → j < length us → t + distance given (n + j) ≤ get_or us j 0
apart_at given t n [] j h l = omega arith
apart_at given t n (u ∷ us) zero h l = grind (arith, nat_tests)
apart_at given t n (u ∷ us) (suc j) h l = let rest = apart_at given t (suc n) us j in grind (arith, nat_tests)

apart_all : (given : List ℕ) (t n : ℕ) (us : List ℕ) → ((j : ℕ) → j < length us → t + distance given (n + j) ≤ get_or us j 0) → apart_from given t n us ≡ true
apart_all given t n [] h = refl
apart_all given t n (u ∷ us) h =
    let here = h 0 in
    let rest = apart_all given t (suc n) us (λ j l. let there = h (suc j) in grind arith) in
    grind (arith, nat_tests)

pub far_apart : (given ts : List ℕ) → far_enough given ts ≡ true → Apart given ts
far_apart given [] h i n one l = omega arith
far_apart given (t ∷ ts) h zero zero one l = omega arith
far_apart given (t ∷ ts) h zero (suc j) one l = let here = apart_at given t 1 ts j in grind arith
far_apart given (t ∷ ts) h (suc i) n one l = let rest = λ (e : far_enough given ts ≡ true). far_apart given ts e i n one in grind arith

pub apart_far : (given ts : List ℕ) → Apart given ts → far_enough given ts ≡ true
apart_far given [] h = refl
apart_far given (t ∷ ts) h =
    let here = apart_all given t 1 ts (λ j l. let there = h 0 (suc j) in grind arith) in
    let rest = apart_far given ts (λ i n one l. let there = h (suc i) n one in grind arith) in
    grind arith

pub decides_table : (given ts : List ℕ) → Decides (keeps_table given ts) (KeepsTable given ts)
decides_table given ts = ((λ k. let f = far_apart given ts in (grind arith, grind arith)), (λ k. let f = apart_far given ts k.1 in grind arith))
