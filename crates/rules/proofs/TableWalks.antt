-- On rising lists the walk of a table, from its start, is the table's test: the given distances are enough.
use Rattle.std.proofs.Common.{◌≡◌, ℕ, zero, suc, ◌+◌, ◌-◌, ◌<◌, ◌≤◌, Bool, true, ◌&&◌, leb, List, [], ◌∷◌, length, get_or, sym, refl, ap, ◌∙◌, ⊎_elim, arith}
use Rattle.std.proofs.lemmas.Bool.{cases_lt}
use Rattle.std.proofs.lemmas.Bool.Decides.{nat_tests, same_from_decides}
use Rattle.limits.specs.Strokes.{rises_from, never_falls}
use Rattle.limits.specs.Limits.{largest_sum, extended, distance, far_enough}
use Rattle.rules.specs.Layers.{spaced, keep_apart}
use Rattle.rules.proofs.TableDistances.{distance_given, distance_more, extended_at}
use Rattle.rules.proofs.Tables.{Apart, far_apart, apart_far}

largest_bound : (xs ds : List ℕ) (a b : ℕ) → a ≤ b → ((w : ℕ) → w < length xs → w < length ds → a + (get_or xs w 0 + get_or ds w 0) ≤ b) → a + largest_sum xs ds ≤ b
largest_bound [] ds a b ab h = omega arith
largest_bound (x ∷ xs) [] a b ab h = omega arith
largest_bound (x ∷ xs) (d ∷ ds) a b ab h =
    let here : a + (x + d) ≤ b = h 0 (omega arith) (omega arith) in
    let rest = largest_bound xs ds a b ab (λ w p q. h (suc w) (omega arith) (omega arith)) in
    omega arith

-- a rising list by places

rise_at : (t : ℕ) (ts : List ℕ) (k : ℕ) → rises_from t ts ≡ true → k < length ts → t ≤ get_or ts k 0
rise_at t [] k h l = omega arith
rise_at t (u ∷ us) zero h l = grind (arith, nat_tests)
rise_at t (u ∷ us) (suc k) h l = let rest = rise_at u us k in grind (arith, nat_tests)

rise_by : (t : ℕ) (ts : List ℕ) (i n : ℕ) → rises_from t ts ≡ true → i + suc n < length ts → get_or ts i 0 ≤ get_or ts (i + suc n) 0
rise_by t [] i n h l = omega arith
rise_by t (u ∷ us) zero n h l = let rest = rise_at u us n in grind arith
rise_by t (u ∷ us) (suc i) n h l = let rest = rise_by u us i n in grind arith

-- the given distances are kept
abbrev Near : List ℕ → List ℕ → Type 0
Near given ts = (i k : ℕ) → k < length given → i + suc k < length ts → get_or ts i 0 + get_or given k 0 ≤ get_or ts (i + suc k) 0

-- then so are the others: each is the largest of sums of a given distance and a smaller one
near_apart : (given ts : List ℕ) → never_falls ts ≡ true → Near given ts → (top i n : ℕ) → n ≤ top → 1 ≤ n → i + n < length ts → get_or ts i 0 + distance given n ≤ get_or ts (i + n) 0
near_apart given ts rise near zero i n nt one l = omega arith
near_apart given ts rise near (suc top) i zero nt one l = omega arith
near_apart given ts rise near (suc top) i (suc k) nt one l =
    ⊎_elim
    (λ (few : k < length given). rw (distance_given given k few) (near i k few l))
    (λ (many : length given ≤ k).
    let j : ℕ = k - length given in
    let e : length given + suc j ≡ suc k = omega arith in
    let sum : distance given (suc k) ≡ largest_sum given (extended given j) = ap (distance given) (sym e) ∙ distance_more given j in
    rw sum (largest_bound given (extended given j) (get_or ts i 0) (get_or ts (i + suc k) 0) (rise_by 0 ts i k rise l)
    (λ w wl we.
    let q : ℕ = length given + j - w in
    let f : i + q + suc w ≡ i + suc k = omega arith in
    let lower = near_apart given ts rise near top i q (omega arith) (omega arith) (omega arith) in
    let step : get_or ts (i + q) 0 + get_or given w 0 ≤ get_or ts (i + suc k) 0 = rw f at (near (i + q) w wl (omega arith)) in
    rw (extended_at given j w (omega arith)) (omega arith))))
    (cases_lt k (length given))

apart_near : (given ts : List ℕ) → Apart given ts → Near given ts
apart_near given ts h i k lg lt = rw (← (distance_given given k lg)) (h i (suc k) (omega arith) lt)

-- the same from each stroke on, as a test
abbrev ahead : List ℕ → ℕ → List ℕ → Bool
ahead [] t us = true
ahead (d ∷ ds) t [] = true
ahead (d ∷ ds) t (u ∷ us) = leb (t + d) u && ahead ds t us

abbrev nears : List ℕ → List ℕ → Bool
nears given [] = true
nears given (t ∷ ts) = ahead given t ts && nears given ts

ahead_at : (ds : List ℕ) (t : ℕ) (us : List ℕ) (k : ℕ) → ahead ds t us ≡ true → k < length ds → k < length us → t + get_or ds k 0 ≤ get_or us k 0
ahead_at [] t us k h ld lu = omega arith
ahead_at (d ∷ ds) t [] k h ld lu = omega arith
ahead_at (d ∷ ds) t (u ∷ us) zero h ld lu = grind (arith, nat_tests)
ahead_at (d ∷ ds) t (u ∷ us) (suc k) h ld lu = let rest = ahead_at ds t us k in grind (arith, nat_tests)

ahead_all : (ds : List ℕ) (t : ℕ) (us : List ℕ) → ((k : ℕ) → k < length ds → k < length us → t + get_or ds k 0 ≤ get_or us k 0) → ahead ds t us ≡ true
ahead_all [] t us h = refl
ahead_all (d ∷ ds) t [] h = refl
ahead_all (d ∷ ds) t (u ∷ us) h =
    let here = h 0 in
    let rest = ahead_all ds t us (λ k p q. h (suc k) (omega arith) (omega arith)) in
    grind (arith, nat_tests)

nears_near : (given ts : List ℕ) → nears given ts ≡ true → Near given ts
nears_near given [] h i k lg lt = omega arith
nears_near given (t ∷ ts) h zero k lg lt = let here = ahead_at given t ts k in grind arith
nears_near given (t ∷ ts) h (suc i) k lg lt = let rest = λ (e : nears given ts ≡ true). nears_near given ts e i k lg in grind arith

near_nears : (given ts : List ℕ) → Near given ts → nears given ts ≡ true
near_nears given [] h = refl
near_nears given (t ∷ ts) h =
    let here = ahead_all given t ts (λ k p q. let there = h 0 k p in grind arith) in
    let rest = near_nears given ts (λ i k p q. let there = h (suc i) k p in grind arith) in
    grind arith

-- the walk looks back: what the past asks of the strokes to come, and what these ask of one another
abbrev rest : List ℕ → List ℕ
rest [] = []
rest (d ∷ ds) = ds

abbrev behind : List ℕ → List ℕ → List ℕ → Bool
behind [] past ts = true
behind (d ∷ ds) [] ts = true
behind (d ∷ ds) (x ∷ xs) ts = ahead (d ∷ ds) x ts && behind ds xs ts

behind_none : (ds ts : List ℕ) → behind ds [] ts ≡ true
behind_none [] ts = refl
behind_none (d ∷ ds) ts = refl

behind-nil : (ds past : List ℕ) → behind ds past [] ≡ true
behind-nil [] past = refl
behind-nil (d ∷ ds) [] = refl
behind-nil (d ∷ ds) (x ∷ xs) = behind-nil ds xs

behind-cons : (ds : List ℕ) (x : ℕ) (xs ts : List ℕ) → behind ds (x ∷ xs) ts ≡ (ahead ds x ts && behind (rest ds) xs ts)
behind-cons [] x xs ts = refl
behind-cons (d ∷ ds) x xs ts = refl

behind_step : (ds past : List ℕ) (t : ℕ) (ts : List ℕ) → behind ds past (t ∷ ts) ≡ (spaced ds past t && behind (rest ds) past ts)
behind_step [] past t ts = refl
behind_step (d ∷ ds) [] t ts = sym (behind_none ds ts)
behind_step (d ∷ ds) (x ∷ xs) t ts = let step = behind_step ds xs t ts in let front = behind-cons ds x xs ts in grind arith

keep_nears : (given past ts : List ℕ) → keep_apart given past ts ≡ (behind given past ts && nears given ts)
keep_nears given past [] = let e = behind-nil given past in grind arith
keep_nears given past (t ∷ ts) =
    let later = keep_nears given (t ∷ past) ts in
    let front = behind-cons given t past ts in
    let step = behind_step given past t ts in
    grind arith

pub table_walk : (given ts : List ℕ) → never_falls ts ≡ true → keep_apart given [] ts ≡ far_enough given ts
table_walk given ts rise =
    same_from_decides {P = Near given ts} (keep_apart given [] ts) (far_enough given ts) (
      (λ h. nears_near given ts (let e = keep_nears given [] ts in let f = behind_none given ts in grind arith)),
      (λ h. let e = keep_nears given [] ts in let f = behind_none given ts in let g = near_nears given ts h in grind arith),
    ) (
      (λ h. apart_near given ts (far_apart given ts h)),
      (λ h. apart_far given ts (λ i n one l. near_apart given ts rise h n i n (omega arith) one l)),
    )
