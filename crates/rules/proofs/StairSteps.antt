-- A stair's one number: what it bars, how large it gets, and what an accepted stroke leaves; and a stair as laid is the layer at its start.
use Rattle.std.proofs.Common.{◌≡◌, ℕ, ◌+◌, ◌*◌, ◌≤◌, max, leb, refl, mul-le-mul_right, arith}
use Rattle.std.proofs.lemmas.Bool.Decides.{nat_tests}
use Rattle.limits.specs.Limits.{stair, keeps}
use Rattle.rules.specs.Rules.{Meaning, may, struck, laid, Order}
use Rattle.rules.specs.Layers.{afford, layered, stair_own}
use Rattle.rules.proofs.Walks.{stair_walk}
use Rattle.rules.proofs.Meanings.{same_meaning, same_and}

-- what a tick that is not barred is worth
pub stair_free : (n p w x t : ℕ) → ((u : ℕ) → may (stair_own n p w) u ≡ leb x u) → x ≤ t → w + p ≤ t + n * p
stair_free n p w x t opens h = let e = opens t in grind (arith, nat_tests)

-- the number after an accepted stroke stays that close to the stroke
pub stair_close : (n p w t : ℕ) → 1 ≤ n → w + p ≤ t + n * p → max t w + p ≤ t + n * p
stair_close n p w t hn h = let one : 1 * p ≤ n * p = mul-le-mul_right p hn in omega arith

-- an accepted stroke leaves the next number
pub stair_struck : (n p w t : ℕ) (m : Meaning) → 1 ≤ n → 1 ≤ p → w + p ≤ t + n * p → layered (stair_own n p (max t w + p)) (struck t m) ≡ struck t (layered (stair_own n p w) m)
stair_struck n p w t m hn hp h =
    same_meaning (layered (stair_own n p (max t w + p)) (struck t m)) (struck t (layered (stair_own n p w) m))
    (let close = stair_close n p w t hn h in grind (arith, nat_tests))
    (λ ts. grind (arith, nat_tests))

pub stair_laid : (n p : ℕ) (m : Meaning) → 1 ≤ n → 1 ≤ p → Order m → layered (stair_own n p 0) m ≡ laid (stair n p) m
stair_laid n p m hn hp o =
    same_meaning (layered (stair_own n p 0) m) (laid (stair n p) m) refl
    (λ ts. same_and (m.allows ts) (afford n p 0 ts) (keeps (stair n p) ts) (λ h. let rise = o.rising ts h in let walk = stair_walk n p ts hn hp rise in grind arith))
