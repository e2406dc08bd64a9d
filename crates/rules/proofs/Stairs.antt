-- The test of a stair tells whether every closed window is kept.
use Rattle.std.proofs.Common.{◌≡◌, ℕ, suc, ◌+◌, ◌-◌, ◌/◌, ◌≤◌, true, List, [], ◌∷◌, Decides, refl, le_trans, le-div_iff_mul-le, div-mul-le_self, arith}
use Rattle.std.proofs.lemmas.Bool.Decides.{nat_tests}
use Rattle.limits.specs.Strokes.{rises_from}
use Rattle.limits.specs.Limits.{within, full_from, few_enough, KeepsStair, keeps_stair}

div_mono : (p x y : ℕ) → 1 ≤ p → x ≤ y → x / p ≤ y / p
div_mono p x y hp h = (le-div_iff_mul-le hp).1 (le_trans (div-mul-le_self x p) h)

-- of the strokes of the list that lie in the window, no more than the test allows
counted : (n p t a b k j : ℕ) (us : List ℕ) → 1 ≤ p → full_from n p t k us ≡ true → j ≤ k → j ≤ n + (b - t) / p → j + within a b us ≤ n + (b - t) / p
counted n p t a b k j [] hp full jk jb = omega arith
counted n p t a b k j (u ∷ us) hp full jk jb =
    let m : u ≤ b → (u - t) / p ≤ (b - t) / p = λ ub. div_mono p (u - t) (b - t) hp (omega arith) in
    let inside = counted n p t a b (suc k) (suc j) us hp in
    let outside = counted n p t a b (suc k) j us hp in
    grind (arith, nat_tests)

windows : (n p : ℕ) (ts : List ℕ) → 1 ≤ p → few_enough n p ts ≡ true → (a b : ℕ) → a ≤ b → within a b ts ≤ n + (b - a) / p
windows n p [] hp few a b ab = omega arith
windows n p (t ∷ ts) hp few a b ab =
    let m : a ≤ t → (b - t) / p ≤ (b - a) / p = λ h. div_mono p (b - t) (b - a) hp (omega arith) in
    let from = counted n p t a b 0 0 (t ∷ ts) hp in
    let rest = λ (e : few_enough n p ts ≡ true). windows n p ts hp e a b ab in
    grind (arith, nat_tests)

-- the windows from t on hold each stroke up to their end
full : (n p t k u₀ : ℕ) (us : List ℕ) → t ≤ u₀ → rises_from u₀ us ≡ true → ((b : ℕ) → u₀ ≤ b → k + within t b us ≤ n + (b - t) / p) → full_from n p t k us ≡ true
full n p t k u₀ [] tu rise few = refl
full n p t k u₀ (u ∷ us) tu rise few =
    let now = few u in
    let rest = λ (e : rises_from u us ≡ true) (uu : u₀ ≤ u). full n p t (suc k) u us (omega arith) e (λ b ub. let f = few b in grind (arith, nat_tests)) in
    grind (arith, nat_tests)

tested : (n p t₀ : ℕ) (ts : List ℕ) → rises_from t₀ ts ≡ true → ((a b : ℕ) → a ≤ b → within a b ts ≤ n + (b - a) / p) → few_enough n p ts ≡ true
tested n p t₀ [] rise few = refl
tested n p t₀ (t ∷ ts) rise few =
    let from = λ (e : rises_from t (t ∷ ts) ≡ true). full n p t 0 t (t ∷ ts) (omega arith) e (λ b tb. let f = few t b tb in omega arith) in
    let rest = λ (e : rises_from t ts ≡ true). tested n p t ts e (λ a b ab. let f = few a b ab in omega arith) in
    grind (arith, nat_tests)

pub decides_stair : (n p : ℕ) (ts : List ℕ) → 1 ≤ p → Decides (keeps_stair n p ts) (KeepsStair n p ts)
decides_stair n p ts hp = ((λ k. let w = windows n p ts hp in (grind arith, grind arith)), (λ k. let t = tested n p 0 ts k.0 k.1 in grind arith))
