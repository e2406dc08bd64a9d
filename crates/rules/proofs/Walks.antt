-- On rising lists the walk of a stair, from its start, is the stair's test. Both are shown equal to lines: no floor, and no largest of two.
use Rattle.std.proofs.Common.{◌≡◌, ℕ, suc, ◌+◌, ◌-◌, ◌*◌, ◌/◌, ◌<◌, ◌≤◌, max, Bool, true, ◌&&◌, leb, List, [], ◌∷◌, refl, mul-le-mul_right, div-mul-le_self, arith}
use native.Mathlib.Nat.{lt-div-mul-add}
use Rattle.std.proofs.lemmas.Bool.Decides.{nat_tests}
use Rattle.limits.specs.Strokes.{rises_from, never_falls}
use Rattle.limits.specs.Limits.{full_from, few_enough}
use Rattle.rules.specs.Layers.{afford}

-- the k-th stroke of the list lies no more than n periods before s + k periods
abbrev line : ℕ → ℕ → ℕ → List ℕ → Bool
line n p s [] = true
line n p s (u ∷ us) = leb (s + p) (u + n * p) && line n p (s + p) us

abbrev lines : ℕ → ℕ → List ℕ → Bool
lines n p [] = true
lines n p (t ∷ ts) = line n p t (t ∷ ts) && lines n p ts

floor : (n p t k u : ℕ) → 1 ≤ p → t ≤ u → leb (suc k) (n + (u - t) / p) ≡ leb (t + k * p + p) (u + n * p)
floor n p t k u hp tu =
    let d : (u - t) / p * p ≤ u - t = div-mul-le_self (u - t) p in
    let e : u - t < (u - t) / p * p + p = lt-div-mul-add hp in
    let m : suc k ≤ n + (u - t) / p → suc k * p ≤ (n + (u - t) / p) * p = mul-le-mul_right p in
    let l : suc (n + (u - t) / p) ≤ suc k → suc (n + (u - t) / p) * p ≤ suc k * p = mul-le-mul_right p in
    grind (arith, nat_tests)

full_line : (n p t k u₀ : ℕ) (us : List ℕ) → 1 ≤ p → t ≤ u₀ → rises_from u₀ us ≡ true → full_from n p t k us ≡ line n p (t + k * p) us
full_line n p t k u₀ [] hp tu rise = refl
full_line n p t k u₀ (u ∷ us) hp tu rise =
    let here = floor n p t k u hp in
    let rest = full_line n p t (suc k) u us hp in
    grind (arith, nat_tests)

few_lines : (n p t₀ : ℕ) (ts : List ℕ) → 1 ≤ p → rises_from t₀ ts ≡ true → few_enough n p ts ≡ lines n p ts
few_lines n p t₀ [] hp rise = refl
few_lines n p t₀ (t ∷ ts) hp rise =
    let here = full_line n p t 0 t (t ∷ ts) hp in
    let rest = few_lines n p t ts hp in
    grind (arith, nat_tests)

line_max : (n p a b : ℕ) (us : List ℕ) → line n p (max a b) us ≡ (line n p a us && line n p b us)
line_max n p a b [] = refl
line_max n p a b (u ∷ us) = let rest = line_max n p (a + p) (b + p) us in grind (arith, nat_tests)

afford_lines : (n p w : ℕ) (us : List ℕ) → 1 ≤ n → afford n p w us ≡ (line n p w us && lines n p us)
afford_lines n p w [] hn = refl
afford_lines n p w (u ∷ us) hn =
    let m : 1 * p ≤ n * p = mul-le-mul_right p hn in
    let both = line_max n p (w + p) (u + p) us in
    let rest = afford_lines n p (max u w + p) us hn in
    grind (arith, nat_tests)

pub stair_walk : (n p : ℕ) (ts : List ℕ) → 1 ≤ n → 1 ≤ p → never_falls ts ≡ true → afford n p 0 ts ≡ few_enough n p ts
stair_walk n p [] hn hp rise = refl
stair_walk n p (t ∷ ts) hn hp rise =
    let both = line_max n p 0 t (t ∷ ts) in
    let walk = afford_lines n p 0 (t ∷ ts) hn in
    let test = few_lines n p 0 (t ∷ ts) hp rise in
    grind (arith, nat_tests)
